-- What is sent of an answer, piece by piece; and that its object has no float.
use Rattle.std.proofs.Common.{◌≡◌, ◌||◌, ℕ, Bool, true, false, Option, Some, None, List, [], ◌∷◌, ◌++◌, codes, option_map, ap, append-nil, refl, subst, ◌∙◌}
use Rattle.controller_walk.specs.declared.walk.WalkState.{WalkState, TheVariants.{More, End, Fault}}
use Rattle.machine_model.specs.declared.words.{Reaped.{Reaped, TheVariants.{Empty, Done, AdminDone, Rejected}}, Refusal.Refusal}
use Rattle.script_cli.specs.declared.verb.Verb.{Verb}
use Rattle.serde.specs.Event as event
use Rattle.serde.specs.Event.{Event, Log}
use Rattle.serde.specs.declared.name.Case.TheVariants.{AsIs}
use Rattle.serde_json.specs.Data.{Data, number, unsigned, string, Members, no_members}
use Rattle.serde_json.specs.Written.{has_float, items_have_float, members_have_float}
use Rattle.step_core.specs.Values.{Reply}
use Rattle.texts.proofs.ObjectTexts.{items_whole, puts_line, sends_both}
use Rattle.texts.specs.Objects.{PutsObject, Sends, events_of, items_of, line_of, members_events, with_some}
use Rattle.texts.specs.ReplyObjects.{PutsReply, SendsNamed, answer_members, detail_members, reaped_members, status_members, text_of, told_object, touched_members, walked_members}
use Rattle.machine_model.specs.declared.words.Refusal.TheVariants as refusal
use Rattle.step_core.specs.declared.step.Reply.TheVariants as reply

-- events, and after them some with a name
pub named_both : {first : List Event} {events : Option (List ℕ) → List Event} {old mid new : Log} → Sends first old mid → SendsNamed events mid new → SendsNamed (λ name. first ++ events name) old new
named_both one two = record { name = two.name; sent = sends_both one two.sent }

-- events after some with a name
pub named_then : {events : Option (List ℕ) → List Event} {last : List Event} {old mid new : Log} → SendsNamed events old mid → Sends last mid new → SendsNamed (λ name. events name ++ last) old new
named_then one two = record { name = one.name; sent = sends_both one.sent two }

-- events with a name, seen as others
pub named_as : {events others : Option (List ℕ) → List Event} {old new : Log} → ((name : Option (List ℕ)) → events name ≡ others name) → SendsNamed events old new → SendsNamed others old new
named_as {events} {others} {old} {new} same sends =
    record { name = sends.name; sent = subst (λ es. Sends es old new) (same sends.name) sends.sent }

-- no name is in them
pub named_none : {events : List Event} {old new : Log} → Sends events old new → SendsNamed (λ name. events) old new
named_none sends = record { name = None; sent = sends }

some_then : (key : List ℕ) (value : Option Data) (more : Members) → members_events (with_some key value no_members) ++ members_events more ≡ members_events (with_some key value more)
some_then key None more = refl
some_then key (Some value) more = ap (λ es. event.field_key key AsIs ∷ (es ++ members_events more)) (append-nil (events_of value))

pub status_then : (text : List ℕ) (name : Option (List ℕ)) (more : Members) → members_events (status_members text name no_members) ++ members_events more ≡ members_events (status_members text name more)
status_then text name more =
    ap (λ es. event.field_key (codes "status") AsIs ∷ event.text text ∷ es) (some_then (codes "name") (option_map string name) more)

pub walked_then : (text : List ℕ) (name : Option (List ℕ)) (state : WalkState) (more : Members) → members_events (walked_members text name state no_members) ++ members_events more ≡ members_events (walked_members text name state more)
walked_then text name More more = refl
walked_then text name End more = refl
walked_then text name (Fault status) more =
    ap (λ es. event.field_key (codes "answer") AsIs ∷ event.text (codes "fault") ∷ es) (status_then text name more)

-- No float

status_whole : (text : List ℕ) (name : Option (List ℕ)) (more : Members) → members_have_float (status_members text name more) ≡ members_have_float more
status_whole text None more = refl
status_whole text (Some name) more = refl

touched_whole : (touched : List ℕ) → members_have_float (touched_members touched) ≡ false
touched_whole touched = ap (λ b. b || false) (items_whole (λ page. number (unsigned page)) (λ page. refl) touched)

walked_whole : (text : List ℕ) (name : Option (List ℕ)) (state : WalkState) (more : Members) → members_have_float (walked_members text name state more) ≡ members_have_float more
walked_whole text name More more = refl
walked_whole text name End more = refl
walked_whole text name (Fault status) more = status_whole text name more

reaped_whole : (text : List ℕ) (name : Option (List ℕ)) (what : Reaped) → members_have_float (reaped_members text name what) ≡ false
reaped_whole text name Empty = refl
reaped_whole text name (Done cid status) = status_whole text name no_members
reaped_whole text None (AdminDone cid status dw0) = refl
reaped_whole text (Some name) (AdminDone cid status dw0) = refl
reaped_whole text name (Rejected why) = refl

detail_whole : (why : Refusal) → members_have_float (detail_members why) ≡ false
detail_whole (refusal.Bad why) = refl
detail_whole (refusal.NoPages need free) = refl
detail_whole (refusal.NoRun need) = refl
detail_whole _ = refl

answer_whole : (text : List ℕ) (name : Option (List ℕ)) (what : Reply) → members_have_float (answer_members text name what) ≡ false
answer_whole text name (reply.Reserved q cid pages chain) = refl
answer_whole text name reply.Accepted = refl
answer_whole text name (reply.Fetched cid touched) = touched_whole touched
answer_whole text name (reply.Walked state touched) = walked_whole text name state (touched_members touched) ∙ touched_whole touched
answer_whole text name (reply.Completed touched) = touched_whole touched
answer_whole text name (reply.Reaps what) = reaped_whole text name what
answer_whole text name (reply.Collected status hints) = status_whole text name no_members
answer_whole text name (reply.Gathered bytes) = refl
answer_whole text name (reply.Sent cid) = refl
answer_whole text name reply.NoValue = refl
answer_whole text name (reply.NotFilled why) = refl
answer_whole text name (reply.Refused why touched) = detail_whole why

-- what is put of an answer with its text is the line of the answer
pub puts_reply : {A : Type 0} {writes : A → Log → Log → Type 0} {value : A} (line : ℕ) (verb : Verb) (text : List ℕ) (what : Reply) (before after : List ℕ) → text ≡ text_of what → ((log : Log) → writes value (Some []) log → SendsNamed (λ name. events_of (told_object line verb text name what)) (Some []) log) → PutsObject writes value before after → PutsReply line verb what before after
puts_reply {A} {writes} {value} line verb text what before after is sends puts =
    let named = sends puts.log puts.sent in
    let told : PutsObject (λ (d : Data). Sends (events_of d)) (told_object line verb text named.name what) before after =
    record { log = puts.log; text = puts.text; sent = named.sent; is = puts.is; put = puts.put } in
    let put = puts_line (told_object line verb text named.name what) before after (λ log sent. sent) (answer_whole text named.name what) told in
    record { name = named.name; put = subst (λ (t : List ℕ). after ≡ before ++ line_of (told_object line verb t named.name what)) is put }
