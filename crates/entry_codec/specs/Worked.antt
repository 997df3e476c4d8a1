-- The entries of a first Read, of block 0 to the page at 4000h, and of its completion, and a completion with hints; and their bytes.
use Rattle.std.specs.Prelude.{ℕ, List, [], ◌∷◌, ◌++◌, replicate, true}
use Rattle.entry_codec.specs.declared.{completion.ComEntry.ComEntry, hints.TheConstants.Hints.NONE, io_opcode.TheConstants.READ}
use Rattle.entry_codec.specs.declared.status.TheConstants.Status.{SUCCESS, COMPARE_FAILURE}
use Rattle.entry_codec.specs.declared.submission.SubEntry.{SubEntry}

-- a Data Block of 512 bytes at 4000h
abbrev pub first_sgl1 : List ℕ
first_sgl1 = 0x00 ∷ 0x40 ∷ 0x00 ∷ 0x00 ∷ 0x00 ∷ 0x00 ∷ 0x00 ∷ 0x00 ∷ 0x00 ∷ 0x02 ∷ 0x00 ∷ 0x00 ∷ 0x00 ∷ 0x00 ∷ 0x00 ∷ 0x00 ∷ []

abbrev pub first_read : SubEntry
first_read = record {
  opcode = READ;
  fuse = 0;
  psdt = 1;
  cid = 0;
  nsid = 1;
  mptr = 0;
  sgl1 = first_sgl1;
  cdw10 = 0;
  cdw11 = 0;
  cdw12 = 0;
  cdw13 = 0;
  cdw14 = 0;
  cdw15 = 0;
}

abbrev pub first_read_bytes : List ℕ
first_read_bytes =
    0x02 ∷ 0x40 ∷ 0x00 ∷ 0x00 ∷ []
    ++ 0x01 ∷ 0x00 ∷ 0x00 ∷ 0x00 ∷ []
    ++ replicate 16 0x00
    ++ first_sgl1
    ++ replicate 24 0x00

abbrev pub first_completion : ComEntry
first_completion = record {
  dw0 = 0;
  sqhd = 1;
  sqid = 1;
  cid = 0;
  phase = true;
  status = SUCCESS;
  hints = NONE;
}

abbrev pub first_completion_bytes : List ℕ
first_completion_bytes =
    0x00 ∷ 0x00 ∷ 0x00 ∷ 0x00 ∷ []
    ++ 0x00 ∷ 0x00 ∷ 0x00 ∷ 0x00 ∷ []
    ++ 0x01 ∷ 0x00 ∷ 0x01 ∷ 0x00 ∷ []
    ++ 0x00 ∷ 0x00 ∷ 0x01 ∷ 0x00 ∷ []

-- a Compare that failed, with each hint
abbrev pub hinting_completion : ComEntry
hinting_completion = record {
  dw0 = 0;
  sqhd = 2;
  sqid = 1;
  cid = 3;
  phase = true;
  status = COMPARE_FAILURE;
  hints = record { retry_delay = 2; more = true; do_not_retry = true };
}

abbrev pub hinting_completion_bytes : List ℕ
hinting_completion_bytes =
    0x00 ∷ 0x00 ∷ 0x00 ∷ 0x00 ∷ []
    ++ 0x00 ∷ 0x00 ∷ 0x00 ∷ 0x00 ∷ []
    ++ 0x02 ∷ 0x00 ∷ 0x01 ∷ 0x00 ∷ []
    ++ 0x03 ∷ 0x00 ∷ 0x0B ∷ 0xE5 ∷ []
