-- What follows a verb.
use Rattle.std.specs.Prelude.{◌++◌, ℕ, Bool, false, true, List, [], ◌∷◌, codes, if◌then◌else◌}
use Rattle.script_cli.specs.Verbs.{verb_text}
use Rattle.script_cli.specs.declared.verb.Verb.{Verb, TheVariants.{CreateCq, Fill, Forge, OnCommand, OnQueue, Owners, Reserve, Reset}}
use Rattle.texts.specs.declared.faults.forms.Slot.{Slot, TheVariants.{BlockSize, Blocks, Bytes, CompletionSlot, EntryBytes, FirstBlock, Identifier, Kind, Namespace, Queue, Submitter, Vector}}

-- the name of a required word
abbrev pub slot_name : Slot → List ℕ
slot_name Queue = codes "Q"
slot_name Identifier = codes "CID"
slot_name CompletionSlot = codes "SLOT"
slot_name Kind = codes "KIND"
slot_name FirstBlock = codes "SLBA"
slot_name Blocks = codes "BLOCKS"
slot_name Namespace = codes "N"
slot_name BlockSize = codes "N"
slot_name Vector = codes "N"
slot_name Bytes = codes "HEX"
slot_name EntryBytes = codes "HEX"
slot_name (Submitter submitters) = codes "S"

-- the words that follow a verb, but for pieces
abbrev pub slots_after : Verb → List Slot
slots_after Reserve = Queue ∷ Kind ∷ FirstBlock ∷ Blocks ∷ []
slots_after Fill = Queue ∷ Identifier ∷ Bytes ∷ []
slots_after Forge = Queue ∷ CompletionSlot ∷ EntryBytes ∷ []
slots_after Reset = []
slots_after Owners = []
slots_after CreateCq = Queue ∷ []
slots_after (OnQueue verb) = Queue ∷ []
slots_after (OnCommand verb) = Queue ∷ Identifier ∷ []

-- pieces follow `reserve` alone
abbrev pub pieces_follow : Verb → Bool
pieces_follow Reserve = true
pieces_follow _ = false

-- names, each after a blank
abbrev pub names_text : List Slot → List ℕ
names_text [] = []
names_text (slot ∷ rest) = codes " " ++ (slot_name slot ++ names_text rest)

-- THE FORM of a line that begins with a verb
abbrev pub form_of : Verb → List ℕ
form_of verb = verb_text verb ++ (names_text (slots_after verb) ++ (if pieces_follow verb then codes " PIECE.." else []))
