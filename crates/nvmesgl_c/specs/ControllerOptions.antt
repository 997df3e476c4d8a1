-- What the options of an opening say, and when a controller is not opened.
use Rattle.std.specs.{Option.option_or, Prelude.{◌≡◌, ◌||◌, ℕ, nat_lt, Bool, Option, Some, None, Ok, Err, List, length, map, if◌then◌else◌}}
use Rattle.nvmesgl_c.specs.{ControllerKept.{Kept, cause_in}, Images.{image_of, IsBadImage, IsGoodImage}, NotOpening.{code_of_not_opened, fault_of_form}, declared.controller.options.CQueue.CQueue}
use Rattle.nvmesgl_c.specs.declared.{controller.options.Options.Options, words.not_opened.NotOpened.NotOpened}
use Rattle.controller_core.specs.{Contents.Contents, Opening.opened, declared.queue.QueuePages.QueuePages}
use Rattle.machine_model.specs.declared.words.OpenRefusal.TheVariants as open_refusal
use Rattle.nvmesgl_c.specs.declared.words.not_opened.NotOpened.TheVariants as not_opened

-- the pages of a queue
abbrev pub pages_of_queue : CQueue → QueuePages
pages_of_queue queue = record { sq = queue.sq; cq = queue.cq }

-- a ring has 2 to 1,024 entries, and there are at most 65,536 queues
abbrev pub is_bad_config : ℕ → ℕ → Bool
is_bad_config entries queues = nat_lt entries 2 || nat_lt 1024 entries || nat_lt 65536 queues

-- what is wrong with the options, for this many queues
abbrev pub fault_of : Options → ℕ → Option NotOpened
fault_of o queues =
    option_or (fault_of_form 32 o.size o.reserved) (if is_bad_config o.entries queues then Some (not_opened.Refused open_refusal.BadConfig) else None)

-- when a controller is not opened for a cause: the first that holds; memory is refused only where there is no other
abbrev pub IsWhy : Options → ℕ → List ℕ → NotOpened → Type 0
IsWhy o queues bytes not_opened.BadImage = (fault_of o queues ≡ None) × IsBadImage o.blocks bytes
IsWhy o queues bytes not_opened.Memory = (fault_of o queues ≡ None) × IsGoodImage o.blocks bytes
IsWhy o queues bytes why = fault_of o queues ≡ Some why

-- what an opening makes
pub record IsOpened (o : Options) (queues : List CQueue) (bytes : List ℕ) (new : Contents) : Type 0 where
  pub form : fault_of o (length queues) ≡ None
  pub opened : new ≡ opened o.entries (map pages_of_queue queues) (image_of o.blocks bytes)

-- an opening that nothing about the handle prevents, or one that its handle is refused for
abbrev pub OpensBy : Option ℕ → Kept → Options → List CQueue → List ℕ → ℕ → Kept → Type 0
OpensBy (Some cause) t o queues bytes code new = (code ≡ cause) × (new ≡ t)
OpensBy None t o queues bytes code (Ok new) = (code ≡ 0) × IsOpened o queues bytes new
OpensBy None t o queues bytes code (Err h) = (why : NotOpened) × IsWhy o (length queues) bytes why × (code ≡ code_of_not_opened why) × (t ≡ Err h)

-- an opening: a handle that is open, or is not of this kind, stays as it is; one that is closed opens, or stays closed for a cause that is told
abbrev pub Opens : Kept → Options → List CQueue → List ℕ → ℕ → Kept → Type 0
Opens t o queues bytes code new = OpensBy (cause_in t) t o queues bytes code new
