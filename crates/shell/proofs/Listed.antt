-- Where each word is in the table of the words with a dot.
use Rattle.std.proofs.Common.{◌≡◌, ℕ, ◌<◌, slice_index_or, refl, lit<}
use Rattle.shell.specs.declared.dot_word.{DotWord.{DotWord, TheVariants.{Help, Explain, Owners, Counts, Rings, Page, Trace, Serve, Read, Write, Save, Dump, Output, Open, Print, Quit}}, TheConstants.DOT_WORDS}

pub place_of : (word default : DotWord) → (place : ℕ) × (place < 16) × (slice_index_or DOT_WORDS place default ≡ word)
place_of Help default = (0, lit< tt, refl)
place_of Explain default = (1, lit< tt, refl)
place_of Owners default = (2, lit< tt, refl)
place_of Counts default = (3, lit< tt, refl)
place_of Rings default = (4, lit< tt, refl)
place_of Page default = (5, lit< tt, refl)
place_of Trace default = (6, lit< tt, refl)
place_of Serve default = (7, lit< tt, refl)
place_of Read default = (8, lit< tt, refl)
place_of Write default = (9, lit< tt, refl)
place_of Save default = (10, lit< tt, refl)
place_of Dump default = (11, lit< tt, refl)
place_of Output default = (12, lit< tt, refl)
place_of Open default = (13, lit< tt, refl)
place_of Print default = (14, lit< tt, refl)
place_of Quit default = (15, lit< tt, refl)
