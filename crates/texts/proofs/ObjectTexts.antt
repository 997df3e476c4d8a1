-- The text of a value that has no float is that of what it sends.
use Rattle.std.proofs.Common.{◌≡◌, ℕ, suc, length, List, [], ◌∷◌, ◌++◌, Bool, true, false, ◌||◌, Some, inl, inr, refl, sym, ap, ◌∙◌, subst, arith, append_assoc, append-nil}
use Rattle.std.proofs.lemmas.Grind.{common_steps}
use Rattle.json.specs.Token as json
use Rattle.json.specs.{Lex.tokens, Print.print, Token.Token, Tree.{json_tokens, items_tokens, members_tokens}}
use Rattle.serde.specs.Event as event
use Rattle.serde.specs.Event.{Event, Log, Logs, WritesEach, WritesSeq}
use Rattle.serde.specs.declared.name.Case.TheVariants.{AsIs}
use Rattle.serde.specs.declared.name.NameKind.TheVariants.{Field}
use Rattle.serde.proofs.Spellings.{spelled-AsIs}
use Rattle.serde_json.specs.Data.{Num, unsigned, negative, float, Data, null, boolean, number, string, array, object, Items, no_items, item, Members, no_members, member}
use Rattle.serde_json.specs.{Events.{items_len, number_event}, Sent.{State, start, Takes, TakesAll, IsTextOf}}
use Rattle.serde_json.specs.Written.{outline, items_outline, members_outline, has_float, items_have_float, members_have_float, compact_text}
use Rattle.serde_json.proofs.{FreeTexts.tokens_by, Texts.print-outline}
use Rattle.texts.specs.Objects.{PutsObject, Sends, events_of, items_events, items_of, line_of, lone, members_events}

-- one event
pub sends_one : (e : Event) {old new : Log} → Logs old new e → Sends (e ∷ []) old new
sends_one e {old} {new} one = record { behind = λ sent kept. subst (λ (log : Log). Logs log new e) kept one }

-- events after events
pub sends_both : {first second : List Event} {old mid new : Log} → Sends first old mid → Sends second mid new → Sends (first ++ second) old new
sends_both {first} {second} one two =
    record { behind = λ sent kept. two.behind (sent ++ first) (one.behind sent kept) ∙ ap Some (append_assoc sent first second) }

-- no event
pub sends_none : {log : Log} → Sends [] log log
sends_none = record { behind = λ sent kept. kept ∙ ap Some (sym (append-nil sent)) }

-- one event after events
pub sends_last : {first : List Event} (e : Event) {old mid new : Log} → Sends first old mid → Logs mid new e → Sends (first ++ e ∷ []) old new
sends_last e first one = sends_both first (sends_one e one)

-- a member: its name, and its value
pub sends_member : (name : List ℕ) (value : Data) {old mid new : Log} → Logs old mid (event.field_key name AsIs) → Sends (events_of value) mid new → Sends (members_events (lone name value)) old new
sends_member name value {old} {mid} {new} named sent =
    let both = sends_both (sends_one (event.field_key name AsIs) named) sent in
    subst (λ es. Sends (event.field_key name AsIs ∷ es) old new) (sym (append-nil (events_of value))) both

-- what a list writes of each of its values, where each sends the events of `value_of`
sends_each : {A : Type 0} (writes : A → Log → Log → Type 0) (value_of : A → Data) → ((x : A) (old new : Log) → writes x old new → Sends (events_of (value_of x)) old new) → (xs : List A) (old new : Log) → WritesEach writes xs old new → Sends (items_events (items_of value_of xs)) old new
sends_each writes value_of each [] old new wrote =
    record { behind = λ sent kept. wrote ∙ kept ∙ ap Some (sym (append-nil sent)) }
sends_each writes value_of each (x ∷ xs) old new wrote =
    sends_both (each x old wrote.0 wrote.1) (sends_each writes value_of each xs wrote.0 new wrote.2)

items_len-items_of : {A : Type 0} (value_of : A → Data) (xs : List A) → items_len (items_of value_of xs) ≡ length xs
items_len-items_of value_of [] = refl
items_len-items_of value_of (x ∷ xs) = ap suc (items_len-items_of value_of xs)

-- the items of a list, between the marks of an array
pub sends_array : {A : Type 0} (value_of : A → Data) (xs : List A) {old first last new : Log} → Logs old first (event.seq_begins (Some (length xs))) → Sends (items_events (items_of value_of xs)) first last → Logs last new event.seq_ends → Sends (events_of (array (items_of value_of xs))) old new
sends_array value_of xs {old} {first} {last} {new} begins items ends =
    subst (λ n. Sends (event.seq_begins (Some n) ∷ (items_events (items_of value_of xs) ++ event.seq_ends ∷ [])) old new) (sym (items_len-items_of value_of xs))
    (sends_both (sends_one (event.seq_begins (Some (length xs))) begins) (sends_last event.seq_ends items ends))

-- what a list writes is an array
pub sends_list : {A : Type 0} (writes : A → Log → Log → Type 0) (value_of : A → Data) → ((x : A) (old new : Log) → writes x old new → Sends (events_of (value_of x)) old new) → (xs : List A) (old new : Log) → WritesSeq writes xs old new → Sends (events_of (array (items_of value_of xs))) old new
sends_list writes value_of each xs old new (first, last, begins, inside, ends) =
    sends_array value_of xs begins (sends_each writes value_of each xs first last inside) ends

-- no value of a list has a float
pub items_whole : {A : Type 0} (value_of : A → Data) → ((x : A) → has_float (value_of x) ≡ false) → (xs : List A) → items_have_float (items_of value_of xs) ≡ false
items_whole value_of each [] = refl
items_whole value_of each (x ∷ xs) = ap (λ b. b || items_have_float (items_of value_of xs)) (each x) ∙ items_whole value_of each xs

-- no key is due, and nothing is flattened
abbrev IsPlain : State → Type 0
IsPlain s = (s.at_key ≡ false) × (s.flattens ≡ false) × (s.flat ≡ [])

abbrev Added : State → List Token → State → Type 0
Added old ts new = IsPlain new × (new.tokens ≡ old.tokens ++ ts)

abbrev Leads : State → List Token → List Event → State → Type 0
Leads old ts rest last = (mid : State) × Added old ts mid × TakesAll mid rest last

number_added : (n : Num) (s m : State) → has_float (number n) ≡ false → IsPlain s → Takes s (number_event n) m → Added s (json_tokens (outline (number n))) m
number_added (unsigned n) s m whole plain step = grind (arith, common_steps)
number_added (negative z) s m whole plain step = grind (arith, common_steps)
number_added (float x) s m whole plain step = absurd cc

map_ended : (s m : State) → IsPlain s → Takes s event.map_ends m → Added s (json.end_object ∷ []) m
map_ended s m plain step = elim step [
  | inl flat ↦ absurd (grind (arith, common_steps, flat.1, plain.2))
  | inr braced ↦ grind (arith, common_steps, braced.1)
]

left_false : (a b : Bool) → (a || b) ≡ false → a ≡ false
left_false true b h = h
left_false false b h = refl

right_false : (a b : Bool) → (a || b) ≡ false → b ≡ false
right_false true b h = absurd cc
right_false false b h = h

after : (s m : State) (ts us : List Token) (rest : List Event) (last : State) → Added s ts m → Leads m us rest last → Leads s (ts ++ us) rest last
after s m ts us rest last first more = (more.0, (more.1.0, more.1.1 ∙ ap (λ xs. xs ++ us) first.1 ∙ append_assoc s.tokens ts us), more.2)

mutual
  value_leads : (d : Data) (rest : List Event) (s last : State) → has_float d ≡ false → IsPlain s → TakesAll s (events_of d ++ rest) last → Leads s (json_tokens (outline d)) rest last
  value_leads null rest s last whole plain run = (run.0, grind (arith, common_steps, run.1.1), run.2)
  value_leads (boolean b) rest s last whole plain run = (run.0, grind (arith, common_steps, run.1.1), run.2)
  value_leads (number n) rest s last whole plain run = (run.0, number_added n s run.0 whole plain run.1, run.2)
  value_leads (string t) rest s last whole plain run = (run.0, grind (arith, common_steps, run.1.1), run.2)
  value_leads (array ds) rest s last whole plain run =
      let opened : Added s (json.begin_array ∷ []) run.0 = grind (arith, common_steps, run.1.1.1) in
      after s run.0 (json.begin_array ∷ []) _ rest last opened
      (items_lead ds rest run.0 last whole opened.0 (subst (λ es. TakesAll run.0 es last) (append_assoc (items_events ds) (event.seq_ends ∷ []) rest) run.2))
  value_leads (object ms) rest s last whole plain run =
      let opened : Added s (json.begin_object ∷ []) run.0 = grind (arith, common_steps, run.1.1) in
      after s run.0 (json.begin_object ∷ []) _ rest last opened
      (members_lead ms rest run.0 last whole opened.0 (subst (λ es. TakesAll run.0 es last) (append_assoc (members_events ms) (event.map_ends ∷ []) rest) run.2))

  items_lead : (ds : Items) (rest : List Event) (s last : State) → items_have_float ds ≡ false → IsPlain s → TakesAll s (items_events ds ++ event.seq_ends ∷ rest) last → Leads s (items_tokens (items_outline ds)) rest last
  items_lead no_items rest s last whole plain run = (run.0, grind (arith, common_steps, run.1), run.2)
  items_lead (item d ds) rest s last whole plain run =
      let first = value_leads d (items_events ds ++ event.seq_ends ∷ rest) s last (left_false _ _ whole) plain (subst (λ es. TakesAll s es last) (append_assoc (events_of d) (items_events ds) (event.seq_ends ∷ rest)) run) in
      after s first.0 _ _ rest last first.1 (items_lead ds rest first.0 last (right_false _ _ whole) first.1.0 first.2)

  members_lead : (ms : Members) (rest : List Event) (s last : State) → members_have_float ms ≡ false → IsPlain s → TakesAll s (members_events ms ++ event.map_ends ∷ rest) last → Leads s (members_tokens (members_outline ms)) rest last
  members_lead no_members rest s last whole plain run = (run.0, map_ended s run.0 plain run.1, run.2)
  members_lead (member k d ms) rest s last whole plain run =
      let named : Added s (json.key k ∷ []) run.0 = grind (arith, common_steps, run.1, spelled-AsIs Field k) in
      let first = value_leads d (members_events ms ++ event.map_ends ∷ rest) run.0 last (left_false _ _ whole) named.0 (subst (λ es. TakesAll run.0 es last) (append_assoc (events_of d) (members_events ms) (event.map_ends ∷ rest)) run.2) in
      after s run.0 (json.key k ∷ []) _ rest last named (after run.0 first.0 _ _ rest last first.1 (members_lead ms rest first.0 last (right_false _ _ whole) first.1.0 first.2))

text_of_sent : (d : Data) (log : Log) (text : List ℕ) → log ≡ Some (events_of d) → IsTextOf log text → has_float d ≡ false → text ≡ compact_text d
text_of_sent d log text sent h whole =
    let same = tokens_by false (events_of d) log (tokens text) (json_tokens (outline d)) sent h.0 (λ s run.
    let led = value_leads d [] (start false) s whole (refl, refl, refl) (subst (λ es. TakesAll (start false) es s) (sym (append-nil (events_of d))) run) in
    ap (λ x. x.tokens) led.2 ∙ led.1.1) in
    h.1 ∙ ap print same ∙ print-outline d

-- what is put of a value that sends the events of `d` is the line of `d`
pub puts_line : {A : Type 0} {writes : A → Log → Log → Type 0} {value : A} (d : Data) (before after : List ℕ) → ((log : Log) → writes value (Some []) log → Sends (events_of d) (Some []) log) → has_float d ≡ false → PutsObject writes value before after → after ≡ before ++ line_of d
puts_line d before after sends whole puts =
    puts.put ∙ ap (λ text. before ++ (text ++ 10 ∷ [])) (text_of_sent d puts.log puts.text ((sends puts.log puts.sent).behind [] refl) puts.is whole)
