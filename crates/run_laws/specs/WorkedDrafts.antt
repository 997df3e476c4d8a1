-- A worked run: a draft is filled, built, and filled again before it is submitted, beside a draft of another name.
use Rattle.std.specs.Prelude.{◌≡◌, ℕ, List, [], ◌∷◌, map, replicate}
use Rattle.io_commands.specs.{Asked.Request, DataBytes.gathered, declared.{draft.FillFault.TheVariants.WrongLength, request.{Kind.TheVariants.Write, TheConstants.Flags.NONE}}}
use Rattle.io_commands.specs.declared.request.Piece.{Piece, TheVariants.Data}
use Rattle.io_commands.specs.declared.block_size.BlockSize.TheVariants.{Bytes512}
use Rattle.machine_model.specs.{Script.{Line, Said, reserve, fill, build, submit, ok, reserved, not_filled, made_by}, Trusted.drafts_of, WorkedReads.ordinary}
use Rattle.run_laws.specs.{Drafts.{ReservedCommand, fills_of, bytes_left}, Values.Done}
use Rattle.step_core.specs.declared.step.Reply.TheVariants as reply
use Rattle.step_core.specs.declared.step.Step.TheVariants as step

-- 512 bytes at the start of a page, and after its first 100 bytes
abbrev pub at_start : List Piece
at_start = Data 0 512 ∷ []

abbrev pub behind : List Piece
behind = Data 100 512 ∷ []

abbrev pub too_many : List ℕ
too_many = replicate 513 1

abbrev pub filled_twice : List Line
filled_twice =
    reserve 1 Write 0 1 at_start ∷ reserve 1 Write 1 1 behind ∷ fill 1 0 (7 ∷ 7 ∷ 7 ∷ []) ∷ fill 1 1 (9 ∷ []) ∷ build 1 0
    ∷ fill 1 0 (5 ∷ 6 ∷ []) ∷ fill 1 0 too_many ∷ submit 1 0 ∷ build 1 1 ∷ submit 1 1 ∷ []

abbrev pub filled_twice_said : List Said
filled_twice_said =
    reserved 1 0 (4 ∷ []) [] ∷ reserved 1 1 (5 ∷ []) [] ∷ ok ∷ ok ∷ ok ∷ ok ∷ not_filled WrongLength ∷ ok ∷ ok ∷ ok ∷ []

-- what the drafts that the machine's submissions got gather, the latest first
abbrev pub bytes_submitted : List (List ℕ)
bytes_submitted = map (λ d. gathered d.request.pieces d.data_pages) (drafts_of (made_by ordinary filled_twice))

abbrev pub write_at : ℕ → List Piece → Request
write_at slba pieces = record { kind = Write; nsid = 1; flags = NONE; slba = slba; block_size = Bytes512; blocks = 1; pieces = pieces }

-- A bench that does those steps up to the first submission

pub record IsFilledTwice (c : ReservedCommand) : Type 0 where
  pub request : c.request ≡ write_at 0 at_start
  pub steps : map (λ (d : Done). d.what) c.between
      ≡ step.Reserve 1 (write_at 1 behind) ∷ step.Fill 1 0 (7 ∷ 7 ∷ 7 ∷ []) ∷ step.Fill 1 1 (9 ∷ []) ∷ step.Build 1 0 ∷ step.Fill 1 0 (5 ∷ 6 ∷ [])
      ∷ step.Fill 1 0 too_many ∷ []
  pub answers : map (λ (d : Done). d.answer) c.between
      ≡ reply.Reserved 1 1 1 0 ∷ reply.Accepted ∷ reply.Accepted ∷ reply.Accepted ∷ reply.Accepted ∷ reply.NotFilled WrongLength ∷ []
  pub submitted : c.submission.answer ≡ reply.Accepted
  pub fills : fills_of c.q c.cid c.between ≡ (7 ∷ 7 ∷ 7 ∷ []) ∷ (5 ∷ 6 ∷ []) ∷ []
  pub bytes : bytes_left c ≡ 5 ∷ 6 ∷ replicate 510 0

abbrev pub a_bench_fills_twice : Type 0
a_bench_fills_twice = (c : ReservedCommand) × IsFilledTwice c
