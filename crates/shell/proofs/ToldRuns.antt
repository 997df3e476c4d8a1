-- Runs of scripts of which more is told, or in another form.
use Rattle.std.proofs.Common.{◌≡◌, ◌+◌, ◌⊎◌, ℕ, Option, Some, None, Result, Ok, Err, List, [], ◌∷◌, ◌++◌, arith, inl, inr, min, refl, subst, sym}
use Rattle.std.{proofs.lemmas.Grind.common_steps, specs.{Io.KnownBytes.{Appends, Keeps}, Prelude.{IfErr, OnErr}}}
use Rattle.host_core.specs.{Opening.refusal_of_config, declared.config.Config.Config}
use Rattle.machine_model.specs.{Claims.counts_of, Script.{Table, table}}
use Rattle.script_cli.{proofs.{Texts.appends_more}, specs.{Faults.fault_of_script, Inputs.{Gains, IsFront}}}
use Rattle.script_cli.specs.{Owners.counts_line, Scripts.{IsReading, script_of}, declared.{fault.{RunFault.RunFault, ScriptFault.ScriptFault}, script.Numbered.Numbered}}
use Rattle.step_core.specs.Opening.{opening_of}
use Rattle.texts.specs.{Objects.line_of, PageObjects.counts_object}
use Rattle.shell.specs.Told.{Ends, EndsTold, IsFrontOfTold, IsToldTo, TellsCounts, TellsLine, Told}
use Rattle.shell.specs.declared.told.Telling.{Telling, TheVariants.{Objects, Traces}}
use Rattle.script_cli.specs.declared.fault.RunFault.TheVariants as run
use Rattle.script_cli.specs.declared.fault.ScriptFault.TheVariants as fault

-- What is told grows by a line

pub tells_more : (telling : Telling) (t : Table) (done : List Numbered) (told : List ℕ) (so_far : ℕ) (mid : Table) (next : Numbered) (text : List ℕ) (unwell : ℕ) (new : Table)
    → Told telling t done told so_far mid → TellsLine telling mid next.number next.line text unwell new → Told telling t (done ++ next ∷ []) (told ++ text) (so_far + unwell) new
tells_more telling t [] told so_far mid next text unwell new (none, zeros, stays) line =
    (new, text, [], unwell, 0, subst (λ (from : Table). TellsLine telling from next.number next.line text unwell new) stays line, (refl, refl, refl), grind (arith, common_steps), omega (arith, zeros))
tells_more telling t (first ∷ rest) told so_far mid next text unwell new (after, one, others, here, later, says, run, joined, counted) line =
    (after, one, others ++ text, here, later + unwell, says, tells_more telling after rest others later mid next text unwell new run line, grind (arith, common_steps), omega (arith, counted))

-- what has been written of the lines done, and how many answers are not well, as far as 64 bits count
abbrev pub HasTold : Telling → Table → List Numbered → Table → ℕ → Option (List ℕ) → Option (List ℕ) → Type 0
HasTold telling t done now counted a b = (unwell : ℕ) × (counted ≡ min unwell 18446744073709551615) × Gains a b (λ told. Told telling t done told unwell now)

abbrev pub IsFrontOf : List ℕ → List ℕ → Type 0
IsFrontOf whole front = IsFront front whole

-- a count and what comes to it, as far as 64 bits count
counts_on : (counted more sum so_far : ℕ) → counted ≡ min so_far 18446744073709551615 → sum ≡ min (counted + more) 18446744073709551615 → sum ≡ min (so_far + more) 18446744073709551615
counts_on counted more sum so_far first second = omega (arith, first, second)

pub told_more : (telling : Telling) (t : Table) (done : List Numbered) (mid : Table) (counted : ℕ) (next : Numbered) (text : List ℕ) (more : ℕ) (new : Table) (sum : ℕ) (a b c : Option (List ℕ))
    → HasTold telling t done mid counted a b → TellsLine telling mid next.number next.line text more new → sum ≡ min (counted + more) 18446744073709551615 → Appends b c text
    → HasTold telling t (done ++ next ∷ []) new sum a c
told_more telling t done mid counted next text more new sum a b c (so_far, is, (told, run, first)) line adds second =
    (so_far + more, counts_on counted more sum so_far is adds, (told ++ text, tells_more telling t done told so_far mid next text more new run line, appends_more a b c told text first second))

-- Where a run was cut off: between lines, inside what is told of a line, and inside the counts

there_is_an_end : (telling : Telling) (left : List Numbered) (last : Table) → (end : List ℕ) × Ends telling left last end
there_is_an_end Traces [] last = (counts_line (counts_of last.world.host), refl)
there_is_an_end Objects [] last = (line_of (counts_object (counts_of last.world.host)), refl)
there_is_an_end telling (next ∷ rest) last = ([], refl)

pub cut_between : (telling : Telling) (t : Table) (script done left : List Numbered) (mid : Table) (counted : ℕ) (a b : Option (List ℕ))
    → done ++ left ≡ script → HasTold telling t done mid counted a b → Gains a b (IsFrontOfTold telling t script)
cut_between telling t script done left mid counted a b split (so_far, is, (told, run, first)) =
    let (end, ends) = there_is_an_end telling left mid in
    (told, (done, left, mid, told, end, so_far, sym split, run, ends, (end, refl)), first)

pub cut_inside : (telling : Telling) (t : Table) (script done left : List Numbered) (mid : Table) (counted : ℕ) (next : Numbered) (text : List ℕ) (more : ℕ) (new : Table) (a b c : Option (List ℕ))
    → done ++ next ∷ left ≡ script → HasTold telling t done mid counted a b → TellsLine telling mid next.number next.line text more new → Gains b c (IsFrontOf text)
    → Gains a c (IsFrontOfTold telling t script)
cut_inside telling t script done left mid counted next text more new a b c split (so_far, is, (told, run, first)) line (front, (rest, joined), second) =
    let (end, ends) = there_is_an_end telling left new in (
      told ++ front,
      (
        done ++ next ∷ [],
        left,
        new,
        told ++ text,
        end,
        so_far + more,
        grind (arith, common_steps),
        tells_more telling t done told so_far mid next text more new run line,
        ends,
        (rest ++ end, grind (arith, common_steps)),
      ),
      appends_more a b c told front first second,
    )

pub cut_at_the_end : (telling : Telling) (t : Table) (script : List Numbered) (last : Table) (counted : ℕ) (end : List ℕ) (a b c : Option (List ℕ))
    → HasTold telling t script last counted a b → TellsCounts telling (counts_of last.world.host) end → Gains b c (IsFrontOf end) → Gains a c (IsFrontOfTold telling t script)
cut_at_the_end telling t script last counted end a b c (so_far, is, (told, run, first)) tells (front, (rest, joined), second) =
    (told ++ front, (script, [], last, told, end, so_far, grind (arith, common_steps), run, tells, (rest, grind (arith, common_steps))), appends_more a b c told front first second)

-- all was written
pub whole : (telling : Telling) (t : Table) (script : List Numbered) (last : Table) (counted : ℕ) (end : List ℕ) (a b c : Option (List ℕ))
    → HasTold telling t script last counted a b → TellsCounts telling (counts_of last.world.host) end → Appends b c end → Gains a c (IsToldTo telling last counted t script)
whole telling t script last counted end a b c (unwell, is, (told, run, first)) tells second =
    (told ++ end, (told, end, unwell, run, tells, refl, is), appends_more a b c told end first second)

-- a whole text is a prefix of itself
pub whole_is_cut : (telling : Telling) (t : Table) (script : List Numbered) (last : Table) (counted : ℕ) (a b : Option (List ℕ))
    → Gains a b (IsToldTo telling last counted t script) → Gains a b (IsFrontOfTold telling t script)
whole_is_cut telling t script last counted a b (text, (told, end, unwell, run, tells, joined, is), first) =
    (text, (script, [], last, told, end, unwell, grind (arith, common_steps), run, tells, ([], grind (arith, common_steps))), first)

-- How a run ends

-- why there is no script
pub no_script : (telling : Telling) (text : List ℕ) (config : Config) (image : List ℕ) (a : Option (List ℕ)) (why : ScriptFault) (cause : RunFault)
    → cause ≡ fault_of_script why → IsReading text (Err why) → Keeps a a → EndsTold telling (Some text) config image a a cause
no_script telling text config image a fault.TooLong cause same bad keeps = rw same ((text, refl, bad), keeps)
no_script telling text config image a (fault.Line number why) cause same bad keeps = rw same ((text, refl, bad), keeps)
no_script telling text config image a fault.Memory cause same bad keeps = rw same (inl keeps)

-- a run that was cut off says so
pub ends_told : {T : Type 0} (telling : Telling) (r : Result T RunFault) (text : List ℕ) (config : Config) (image : List ℕ) (a b : Option (List ℕ)) (script : List Numbered)
    → script_of text ≡ Ok script → refusal_of_config config ≡ None → OnErr r (Gains a b (IsFrontOfTold telling (table (opening_of config image)) script))
    → IfErr r (λ cause. (cause ≡ run.Memory) ⊎ (cause ≡ run.OutputFailed)) → IfErr r (EndsTold telling (Some text) config image a b)
ends_told telling (Ok done) text config image a b script has fits cut says = _
ends_told telling (Err cause) text config image a b script has fits gains (inl e) = rw e (inr (script, (text, refl, has), fits, gains))
ends_told telling (Err cause) text config image a b script has fits gains (inr e) = rw e (script, (text, refl, has), fits, gains)
