-- A Read of four whole pages, computed: it is longer than what a search goes through.
use Rattle.std.specs.Prelude.{◌≡◌, refl}
use Rattle.page_memory.specs.{Memory.bytes_at, Pages.zero_page}
use Rattle.sgl_descriptor.specs.Spelling.{descriptor_of}
use Rattle.entry_codec.specs.{Completion.{completion_bytes, completion_of}, Submission.{submission_bytes, submission_of}}
use Rattle.controller_walk.specs.Units.{moving, from_place}
use Rattle.machine_model.specs.{Script.played, WorkedChains.{four_pages, four_pages_said}, WorkedReads.ordinary}

pub four_pages_run : played ordinary four_pages ≡ four_pages_said
unfolding zero_page bytes_at descriptor_of submission_bytes submission_of completion_bytes completion_of moving from_place
four_pages_run = refl
