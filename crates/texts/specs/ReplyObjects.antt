-- What a step answered, as an object of JSON.
use Rattle.std.specs.Prelude.{◌≡◌, ◌++◌, ℕ, Option, List, [], codes, option_map}
use Rattle.controller_walk.specs.declared.walk.WalkState.{WalkState, TheVariants.{More, End, Fault}}
use Rattle.entry_codec.specs.Status.{status_text}
use Rattle.machine_model.specs.declared.words.{Reaped.{Reaped, TheVariants.{Empty, Done, AdminDone, Rejected}}, Refusal.Refusal}
use Rattle.script_cli.specs.Replies.{fill_fault_name, is_well, refusal_name, rejected_name, request_fault_name}
use Rattle.script_cli.specs.{Verbs.verb_text, declared.verb.Verb.Verb}
use Rattle.serde.specs.Event.{Event, Log}
use Rattle.serde_json.specs.Data.{Data, boolean, number, unsigned, string, array, object, Members, no_members, member}
use Rattle.step_core.specs.Values.{Reply}
use Rattle.texts.specs.{Objects.{Sends, items_of, line_of, lone, with_some}, Words.hex_text}
use Rattle.machine_model.specs.declared.words.Refusal.TheVariants as refusal
use Rattle.step_core.specs.declared.step.Reply.TheVariants as reply

-- an answer by name, and what more it says
abbrev pub answer : List ℕ → Members → Members
answer name more = member (codes "answer") (string name) more

abbrev pub numbered : List ℕ → ℕ → Members → Members
numbered name n more = member name (number (unsigned n)) more

-- a status, with its name if it has one, and what more there is
abbrev pub status_members : List ℕ → Option (List ℕ) → Members → Members
status_members text name more = member (codes "status") (string text) (with_some (codes "name") (option_map string name) more)

-- the numbers of the pages that a step touched
abbrev pub touched_members : List ℕ → Members
touched_members touched = lone (codes "touched") (array (items_of (λ page. number (unsigned page)) touched))

abbrev pub why_members : List ℕ → Members → Members
why_members name more = answer (codes "refused") (member (codes "why") (string name) more)

-- what more is said of a refusal
abbrev pub detail_members : Refusal → Members
detail_members (refusal.Bad why) = lone (codes "fault") (string (request_fault_name why))
detail_members (refusal.NoPages need free) = numbered (codes "need") need (lone (codes "free") (number (unsigned free)))
detail_members (refusal.NoRun need) = lone (codes "need") (number (unsigned need))
detail_members why = no_members

abbrev pub walked_members : List ℕ → Option (List ℕ) → WalkState → Members → Members
walked_members text name More more = answer (codes "more") more
walked_members text name End more = answer (codes "end") more
walked_members text name (Fault status) more = answer (codes "fault") (status_members text name more)

abbrev pub reaped_members : List ℕ → Option (List ℕ) → Reaped → Members
reaped_members text name Empty = answer (codes "empty") no_members
reaped_members text name (Done cid status) = answer (codes "done") (numbered (codes "cid") cid (status_members text name no_members))
reaped_members text name (AdminDone cid status dw0) =
    answer (codes "admin") (numbered (codes "cid") cid (status_members text name (lone (codes "dw0") (number (unsigned dw0)))))
reaped_members text name (Rejected why) = answer (codes "rejected") (lone (codes "why") (string (rejected_name why)))

abbrev pub reserved_members : ℕ → ℕ → ℕ → ℕ → Members
reserved_members q cid pages chain =
    answer (codes "reserved") (numbered (codes "q") q (numbered (codes "cid") cid (numbered (codes "data") pages (lone (codes "chain") (number (unsigned chain))))))

-- an answer, with the text of its status or of its bytes, and the name of its status if it has one
abbrev pub answer_members : List ℕ → Option (List ℕ) → Reply → Members
answer_members text name (reply.Reserved q cid pages chain) = reserved_members q cid pages chain
answer_members text name reply.Accepted = answer (codes "ok") no_members
answer_members text name (reply.Fetched cid touched) = answer (codes "fetched") (numbered (codes "cid") cid (touched_members touched))
answer_members text name (reply.Walked state touched) = walked_members text name state (touched_members touched)
answer_members text name (reply.Completed touched) = answer (codes "ok") (touched_members touched)
answer_members text name (reply.Reaps what) = reaped_members text name what
answer_members text name (reply.Collected status hints) = answer (codes "collected") (status_members text name no_members)
answer_members text name (reply.Gathered bytes) = answer (codes "gathered") (lone (codes "bytes") (string text))
answer_members text name (reply.Sent cid) = answer (codes "sent") (lone (codes "cid") (number (unsigned cid)))
answer_members text name reply.NoValue = why_members (codes "NoValue") no_members
answer_members text name (reply.NotFilled why) = why_members (fill_fault_name why) no_members
answer_members text name (reply.Refused why touched) = why_members (refusal_name why) (detail_members why)

-- the text of a reaped completion's status
abbrev pub reaped_text : Reaped → List ℕ
reaped_text Empty = []
reaped_text (Done cid status) = status_text status
reaped_text (AdminDone cid status dw0) = status_text status
reaped_text (Rejected why) = []

abbrev pub walked_text : WalkState → List ℕ
walked_text More = []
walked_text End = []
walked_text (Fault status) = status_text status

-- the text of an answer's status, or of its bytes; nothing for an answer that has neither
abbrev pub text_of : Reply → List ℕ
text_of (reply.Reserved q cid pages chain) = []
text_of reply.Accepted = []
text_of (reply.Fetched cid touched) = []
text_of (reply.Walked state touched) = walked_text state
text_of (reply.Completed touched) = []
text_of (reply.Reaps what) = reaped_text what
text_of (reply.Collected status hints) = status_text status
text_of (reply.Gathered bytes) = hex_text bytes
text_of (reply.Sent cid) = []
text_of reply.NoValue = []
text_of (reply.NotFilled why) = []
text_of (reply.Refused why touched) = []

-- the number of a line, its verb, whether the answer is well, and the answer
abbrev pub told_object : ℕ → Verb → List ℕ → Option (List ℕ) → Reply → Data
told_object line verb text name what =
    object (numbered (codes "line") line (member (codes "verb") (string (verb_text verb)) (member (codes "well") (boolean (is_well what)) (answer_members text name what))))

abbrev pub reply_object : ℕ → Verb → Option (List ℕ) → Reply → Data
reply_object line verb name what = told_object line verb (text_of what) name what

-- The line of a step is appended to a text. The name of its status, which no clause spells, is where `name` is.
pub record PutsReply (line : ℕ) (verb : Verb) (what : Reply) (before after : List ℕ) : Type 0 where
  pub name : Option (List ℕ)
  pub put : after ≡ before ++ line_of (reply_object line verb name what)

-- these events are sent, with whatever name a status has there
pub record SendsNamed (events : Option (List ℕ) → List Event) (old new : Log) : Type 0 where
  pub name : Option (List ℕ)
  pub sent : Sends (events name) old new
