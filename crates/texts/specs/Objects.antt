-- Objects of JSON, each on a line of its own.
use Rattle.std.specs.Prelude.{◌≡◌, ℕ, Option, Some, None, List, [], ◌∷◌, ◌++◌}
use Rattle.serde.specs.Event as event
use Rattle.serde.specs.Event.{Event, Log}
use Rattle.serde.specs.declared.name.Case.TheVariants.{AsIs}
use Rattle.serde_json.specs.Data.{Data, null, boolean, number, string, array, object, Items, no_items, item, Members, no_members, member}
use Rattle.serde_json.specs.{Events.{items_len, number_event}, Sent.IsTextOf, Written.compact_text}

-- THE LINE of a value: its text, with no space in it, and a line feed
abbrev pub line_of : Data → List ℕ
line_of value = compact_text value ++ 10 ∷ []

-- What is put of a value that says what it sends to a writer: the text of what it sends, and a line feed.
pub record PutsObject {A : Type 0} (writes : A → Log → Log → Type 0) (value : A) (before after : List ℕ) : Type 0 where
  pub log : Log
  pub text : List ℕ
  pub sent : writes value (Some []) log
  pub is : IsTextOf log text
  pub put : after ≡ before ++ (text ++ 10 ∷ [])

-- What a value sends to a writer. An object does not say before it how many members it has.
abbrev mutual
  pub events_of : Data → List Event
  events_of null = event.nothing ∷ []
  events_of (boolean b) = event.boolean b ∷ []
  events_of (number n) = number_event n ∷ []
  events_of (string s) = event.text s ∷ []
  events_of (array ds) = event.seq_begins (Some (items_len ds)) ∷ (items_events ds ++ event.seq_ends ∷ [])
  events_of (object ms) = event.map_begins None ∷ (members_events ms ++ event.map_ends ∷ [])

  pub items_events : Items → List Event
  items_events no_items = []
  items_events (item d ds) = events_of d ++ items_events ds

  pub members_events : Members → List Event
  members_events no_members = []
  members_events (member k d ms) = event.field_key k AsIs ∷ (events_of d ++ members_events ms)

-- one member
abbrev pub lone : List ℕ → Data → Members
lone name value = member name value no_members

-- the values of a list, as the items of an array
abbrev pub items_of : {A : Type 0} → (A → Data) → List A → Items
items_of value_of [] = no_items
items_of value_of (x ∷ xs) = item (value_of x) (items_of value_of xs)

-- Of a writer that keeps what was sent to it: these events are sent after those so far.
pub record Sends (events : List Event) (old new : Log) : Type 0 where
  pub behind : (sent : List Event) → old ≡ Some sent → new ≡ Some (sent ++ events)

-- the members, and before them one of this name if there is a value for it
abbrev pub with_some : List ℕ → Option Data → Members → Members
with_some name None members = members
with_some name (Some value) members = member name value members
