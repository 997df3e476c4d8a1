-- The controller's steps in one call, and the reaps that wait for a command: one more at a time.
use Rattle.std.proofs.Common.{◌≡◌, ◌+◌, ◌≤◌, ℕ, Bool, true, false, List, [], ◌∷◌, ◌++◌, Option, Some, length, map, refl, sym, subst, ap, inl, arith, length-append, cond}
use Rattle.std.proofs.lemmas.Option.{none-some}
use Rattle.std.proofs.lemmas.List.{map-append, Sums.{sum_by-append, sum_by-cons}}
use Rattle.std.specs.{List.AllByRecursion, Prelude.{count_by, sum_by}}
use Rattle.machine_model.specs.Script.{Table}
use Rattle.machine_model.specs.declared.words.Refusal.{Refusal}
use Rattle.page_memory.proofs.Lists.{all-append}
use Rattle.step_core.specs.{Bench.{Does, DoesAll}, Values.{Step, Reply}}
use Rattle.world_bench.proofs.Benches.{does_more}
use Rattle.nvmesgl_c.specs.MachineServing.{IsOwn, Serves, is_completed, refusal_in}
use Rattle.nvmesgl_c.specs.MachineWhole.{Carries, ComesOut, Names, Outcome, Ended, NotReserved, GivenUp, Left, ReapsUntil, stops}
use Rattle.io_commands.specs.Asked.{Request}
use Rattle.step_core.specs.declared.step.Reply.TheVariants as reply
use Rattle.step_core.specs.declared.step.Step.TheVariants as step
use Rattle.nvmesgl_c.specs.declared.machine.serve.ServeEnd.TheVariants as serve_end

counts_more : (p : Reply → Bool) (rs : List Reply) (r : Reply) (b : Bool) → p r ≡ b → count_by p (rs ++ r ∷ []) ≡ count_by p rs + cond b 1 0
counts_more p rs r b is =
    let f : Reply → ℕ = λ y. cond (p y) 1 0 in
    let both : sum_by f (rs ++ r ∷ []) ≡ sum_by f rs + sum_by f (r ∷ []) = sum_by-append f rs (r ∷ []) in
    let last : sum_by f (r ∷ []) ≡ f r + sum_by f [] = sum_by-cons f r [] in
    let none : sum_by f [] ≡ 0 = refl in
    let here : f r ≡ cond b 1 0 = ap (λ (x : Bool). cond x 1 0) is in
    omega (arith, both, last, none, here)

one_longer : (rs : List Reply) (r : Reply) → length (rs ++ r ∷ []) ≡ length rs + 1
one_longer rs r = length-append rs (r ∷ [])

-- this many steps of the controller, of which this many completed a command
pub record Serving (t : Table) (completed made : ℕ) (new : Table) : Type 0 where
  pub steps : List Step
  pub replies : List Reply
  pub does : DoesAll t steps replies new
  pub own : AllByRecursion IsOwn steps
  pub ended : completed ≡ count_by is_completed replies
  pub count : made ≡ length replies
  pub few : completed ≤ made

pub none_served : (t : Table) → Serving t 0 0 t
none_served t = record { steps = []; replies = []; does = refl; own = tt; ended = refl; count = refl; few = omega arith }

pub served_more : (t mid new : Table) (completed made : ℕ) (what : Step) (r : Reply) (b : Bool) → Serving t completed made mid → IsOwn what → Does mid what r new → is_completed r ≡ b
    → Serving t (completed + cond b 1 0) (made + 1) new
served_more t mid new completed made what r b so own does is =
    let counts : count_by is_completed (so.replies ++ r ∷ []) ≡ count_by is_completed so.replies + cond b 1 0 = counts_more is_completed so.replies r b is in
    let longer : length (so.replies ++ r ∷ []) ≡ length so.replies + 1 = one_longer so.replies r in
    record {
      steps = so.steps ++ what ∷ [];
      replies = so.replies ++ r ∷ [];
      does = does_more t mid new so.steps so.replies what r so.does does;
      own = all-append IsOwn so.steps what so.own own;
      ended = omega (arith, counts, so.ended);
      count = omega (arith, longer, so.count);
      few = small b;
    }
  where
    small : (b : Bool) → completed + cond b 1 0 ≤ made + 1
    small true = omega (arith, so.few)
    small false = omega (arith, so.few)

pub served_other : (t mid new : Table) (completed made : ℕ) (what : Step) (r : Reply) → Serving t completed made mid → IsOwn what → Does mid what r new → is_completed r ≡ false → Serving t completed (made + 1) new
served_other t mid new completed made what r so own does is =
    let same : completed + 0 ≡ completed = omega arith in
    subst (λ (n : ℕ). Serving t n (made + 1) new) same (served_more t mid new completed made what r false so own does is)

not_completed : (r : Reply) (why : Refusal) → refusal_in r ≡ Some why → is_completed r ≡ false
not_completed (reply.Completed touched) why is = absurd (none-some why is)
not_completed (reply.Reserved q cid front back) why is = refl
not_completed reply.Accepted why is = refl
not_completed (reply.Fetched cid touched) why is = refl
not_completed (reply.Walked state touched) why is = refl
not_completed (reply.Reaps what) why is = refl
not_completed (reply.Collected status hints) why is = refl
not_completed (reply.Gathered bytes) why is = refl
not_completed (reply.Sent cid) why is = refl
not_completed reply.NoValue why is = refl
not_completed (reply.NotFilled fault) why is = refl
not_completed (reply.Refused cause touched) why is = refl

-- a refusal as the last step
pub refused_last : (t mid new : Table) (completed made : ℕ) (what : Step) (why : Refusal) (last : Reply) → Serving t completed made mid → IsOwn what → Does mid what last new
    → refusal_in last ≡ Some why → Serves t (record { completed = completed; end = serve_end.Refused why }) new
refused_last t mid new completed made what why last so own does refused =
    let counts : count_by is_completed (so.replies ++ last ∷ []) ≡ count_by is_completed so.replies + 0 = counts_more is_completed so.replies last false (not_completed last why refused) in
    record {
      steps = so.steps ++ what ∷ [];
      replies = so.replies ++ last ∷ [];
      does = does_more t mid new so.steps so.replies what last so.does does;
      own = all-append IsOwn so.steps what so.own own;
      completed = omega (arith, counts, so.ended);
      ends = (so.replies, last, refl, refused);
    }

-- this many reaps for a command, none of which stopped
pub record Reaping (q cid : ℕ) (t : Table) (taken : ℕ) (new : Table) : Type 0 where
  pub replies : List Reply
  pub does : DoesAll t (map (λ r. step.Reap q) replies) replies new
  pub on : AllByRecursion (λ r. stops cid r ≡ false) replies
  pub count : taken ≡ length replies

pub none_reaped : (q cid : ℕ) (t : Table) → Reaping q cid t 0 t
none_reaped q cid t = record { replies = []; does = refl; on = tt; count = refl }

reap_more : (q : ℕ) (t mid new : Table) (replies : List Reply) (r : Reply) → DoesAll t (map (λ r. step.Reap q) replies) replies mid → Does mid (step.Reap q) r new
    → DoesAll t (map (λ r. step.Reap q) (replies ++ r ∷ [])) (replies ++ r ∷ []) new
reap_more q t mid new replies r so does =
    let reaps : List Reply → List Step = λ rs. map (λ (r : Reply). step.Reap q) rs in
    subst (λ (steps : List Step). DoesAll t steps (replies ++ r ∷ []) new) (sym (map-append (λ (r : Reply). step.Reap q) replies (r ∷ [])))
    (does_more t mid new (reaps replies) replies (step.Reap q) r so does)

pub reaped_more : (q cid : ℕ) (t mid new : Table) (taken : ℕ) (r : Reply) → Reaping q cid t taken mid → Does mid (step.Reap q) r new → stops cid r ≡ false → Reaping q cid t (taken + 1) new
reaped_more q cid t mid new taken r so does on =
    let longer : length (so.replies ++ r ∷ []) ≡ length so.replies + 1 = one_longer so.replies r in
    record {
      replies = so.replies ++ r ∷ [];
      does = reap_more q t mid new so.replies r so.does does;
      on = all-append (λ r. stops cid r ≡ false) so.replies r so.on on;
      count = omega (arith, longer, so.count);
    }

pub reaped_last : (q cid : ℕ) (t mid new : Table) (taken : ℕ) (r : Reply) → Reaping q cid t taken mid → Does mid (step.Reap q) r new → stops cid r ≡ true → ReapsUntil q cid t new
reaped_last q cid t mid new taken r so does is =
    record { replies = so.replies ++ r ∷ []; does = reap_more q t mid new so.replies r so.does does; stop = inl (so.replies, r, refl, is, so.on) }

-- a reserved command that turned out so
pub carried_on : (t reserved new : Table) (q cid : ℕ) (request : Request) (bytes : Option (List ℕ)) (answer : Reply) (carried : Outcome)
    → Does t (step.Reserve q request) answer reserved → Names cid answer → ComesOut reserved q cid bytes carried new → Carries t q request bytes carried new
carried_on t reserved new q cid request bytes answer (NotReserved why) does named comes = absurd comes
carried_on t reserved new q cid request bytes answer (Ended status hints gathered) does named comes =
    record { cid = cid; reserved = reserved; reserves = record { answer = answer; does = does; named = named }; comes = comes }
carried_on t reserved new q cid request bytes answer (GivenUp why) does named comes =
    record { cid = cid; reserved = reserved; reserves = record { answer = answer; does = does; named = named }; comes = comes }
carried_on t reserved new q cid request bytes answer (Left of why) does named comes =
    record { cid = cid; reserved = reserved; reserves = record { answer = answer; does = does; named = named }; comes = comes }
