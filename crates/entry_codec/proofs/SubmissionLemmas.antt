-- Lemmas on the bytes of submission entries.
use Rattle.std.proofs.Common.{arith, ◌≡◌, ◌↔◌, ℕ, ◌+◌, ◌<◌, ◌≤◌, ◌^◌, List, ◌++◌, take, drop, length, refl, sym, subst, ap, ◌∙◌}
use Rattle.std.proofs.lemmas.List.{take_at, drop_at, drop-drop, drop_all}
use Rattle.std.proofs.lemmas.Nat.{from_le_bytes-to_le_bytes_2, from_le_bytes-to_le_bytes_4, from_le_bytes-to_le_bytes_8}
use Rattle.std.specs.Int.{w16, w32, w64, to_le_bytes, from_le_bytes}
use Rattle.entry_codec.proofs.Bits.{part_is_bytes, halfword_back, word_back, double_back, halfword_fits, word_fits, double_fits, same_from, part_within, same_parts}
use Rattle.entry_codec.specs.Bytes.{IsBytes}
use Rattle.entry_codec.specs.Submission.{submission_bytes, submission_of, command_words, FitsSubmission, IsSubEntry, IsSubmission, AgreeOutsideReserved}
use Rattle.entry_codec.specs.declared.submission.SubEntry.{SubEntry}

-- 64 bytes spell what is read from them
pub spells : (bytes : List ℕ) → IsBytes 64 bytes → IsSubmission (submission_of bytes) bytes
unfolding submission_of
spells bytes h =
    let part : (at n : ℕ) → at + n ≤ 64 → IsBytes n (take n (drop at bytes)) = part_is_bytes 64 bytes h in
    record {
      typed = record {
        opcode = h.below 0;
        cid = halfword_fits _ _ (part 2 2 (omega arith));
        nsid = word_fits _ _ (part 4 4 (omega arith));
        mptr = double_fits _ _ (part 16 8 (omega arith));
        sgl1 = part 24 16 (omega arith);
        cdw10 = word_fits _ _ (part 40 4 (omega arith));
        cdw11 = word_fits _ _ (part 44 4 (omega arith));
        cdw12 = word_fits _ _ (part 48 4 (omega arith));
        cdw13 = word_fits _ _ (part 52 4 (omega arith));
        cdw14 = word_fits _ _ (part 56 4 (omega arith));
        cdw15 = word_fits _ _ (part 60 4 (omega arith));
      };
      opcode = refl;
      fuse = refl;
      psdt = refl;
      cid = halfword_back _ (part 2 2 (omega arith));
      nsid = word_back _ (part 4 4 (omega arith));
      mptr = double_back _ (part 16 8 (omega arith));
      sgl1 = refl;
      cdw10 = word_back _ (part 40 4 (omega arith));
      cdw11 = word_back _ (part 44 4 (omega arith));
      cdw12 = word_back _ (part 48 4 (omega arith));
      cdw13 = word_back _ (part 52 4 (omega arith));
      cdw14 = word_back _ (part 56 4 (omega arith));
      cdw15 = word_back _ (part 60 4 (omega arith));
    }

-- what bytes spell is what is read from them
pub found : (bytes : List ℕ) (entry : SubEntry) → IsSubmission entry bytes → submission_of bytes ≡ entry
unfolding submission_of
found bytes entry h =
    let cid : from_le_bytes w16 (take 2 (drop 2 bytes)) ≡ entry.cid = ap (λ x. from_le_bytes w16 x) h.cid ∙ from_le_bytes-to_le_bytes_2 entry.cid h.typed.cid in
    let nsid : from_le_bytes w32 (take 4 (drop 4 bytes)) ≡ entry.nsid = ap (λ x. from_le_bytes w32 x) h.nsid ∙ from_le_bytes-to_le_bytes_4 entry.nsid h.typed.nsid in
    let mptr : from_le_bytes w64 (take 8 (drop 16 bytes)) ≡ entry.mptr = ap (λ x. from_le_bytes w64 x) h.mptr ∙ from_le_bytes-to_le_bytes_8 entry.mptr h.typed.mptr in
    let word : (at n : ℕ) → take 4 (drop at bytes) ≡ to_le_bytes w32 n → n < 2 ^ 32 → from_le_bytes w32 (take 4 (drop at bytes)) ≡ n =
    λ at n e fits. ap (λ x. from_le_bytes w32 x) e ∙ from_le_bytes-to_le_bytes_4 n fits in
    rw (
      h.opcode,
      h.fuse,
      h.psdt,
      cid,
      nsid,
      mptr,
      h.sgl1,
      word 40 entry.cdw10 h.cdw10 h.typed.cdw10,
      word 44 entry.cdw11 h.cdw11 h.typed.cdw11,
      word 48 entry.cdw12 h.cdw12 h.typed.cdw12,
      word 52 entry.cdw13 h.cdw13 h.typed.cdw13,
      word 56 entry.cdw14 h.cdw14 h.typed.cdw14,
      word 60 entry.cdw15 h.cdw15 h.typed.cdw15,
    ) refl

-- 64 bytes spell an entry exactly where it is read from them
pub one_spelling : (bytes : List ℕ) (entry : SubEntry) → IsBytes 64 bytes → (IsSubmission entry bytes ↔ (submission_of bytes ≡ entry))
one_spelling bytes entry h = (found bytes entry, λ e. subst (λ (x : SubEntry). IsSubmission x bytes) e (spells bytes h))

-- what lies after SGL1
behind : (sgl words : List ℕ) (k : ℕ) → length sgl ≡ 16 → drop (16 + k) (sgl ++ words) ≡ drop k words
behind sgl words k e = sym (drop-drop k 16 (sgl ++ words)) ∙ ap (λ x. drop k x) (drop_at sgl words 16 e)

-- the bytes that are written for an entry spell it
pub spells_itself : (entry : SubEntry) → IsSubEntry entry → FitsSubmission entry → IsSubmission entry (submission_bytes entry)
unfolding submission_bytes
spells_itself entry typed fits =
    let words = command_words entry in
    let past : (k : ℕ) → drop (16 + k) (entry.sgl1 ++ words) ≡ drop k words = λ k. behind entry.sgl1 words k typed.sgl1.count in
    record {
      typed = typed;
      opcode = refl;
      fuse = omega (arith, fits.fuse);
      psdt = omega (arith, fits.fuse);
      cid = refl;
      nsid = refl;
      mptr = refl;
      sgl1 = take_at entry.sgl1 words 16 typed.sgl1.count;
      cdw10 = ap (λ x. take 4 x) (past 0);
      cdw11 = ap (λ x. take 4 x) (past 4);
      cdw12 = ap (λ x. take 4 x) (past 8);
      cdw13 = ap (λ x. take 4 x) (past 12);
      cdw14 = ap (λ x. take 4 x) (past 16);
      cdw15 = ap (λ x. take 4 x) (past 20);
    }

-- and they are read as it
pub round_trip : (entry : SubEntry) → IsSubEntry entry → FitsSubmission entry → submission_of (submission_bytes entry) ≡ entry
round_trip entry typed fits = found (submission_bytes entry) entry (spells_itself entry typed fits)

-- strings that read alike agree outside what is reserved
pub alike_agree : (a b : List ℕ) → IsBytes 64 a → IsBytes 64 b → submission_of a ≡ submission_of b → AgreeOutsideReserved a b
alike_agree a b ha hb e =
    let s : IsSubmission (submission_of b) a = subst (λ (x : SubEntry). IsSubmission x a) e (spells a ha) in
    let t : IsSubmission (submission_of b) b = spells b hb in
    let ended : drop 64 a ≡ drop 64 b = drop_all 64 a (omega (arith, ha.count)) ∙ sym (drop_all 64 b (omega (arith, hb.count))) in
    let from60 = same_from a b 60 64 (omega arith) (s.cdw15 ∙ sym t.cdw15) ended in
    let from56 = same_from a b 56 60 (omega arith) (s.cdw14 ∙ sym t.cdw14) from60 in
    let from52 = same_from a b 52 56 (omega arith) (s.cdw13 ∙ sym t.cdw13) from56 in
    let from48 = same_from a b 48 52 (omega arith) (s.cdw12 ∙ sym t.cdw12) from52 in
    let from44 = same_from a b 44 48 (omega arith) (s.cdw11 ∙ sym t.cdw11) from48 in
    let from40 = same_from a b 40 44 (omega arith) (s.cdw10 ∙ sym t.cdw10) from44 in
    let from24 = same_from a b 24 40 (omega arith) (s.sgl1 ∙ sym t.sgl1) from40 in
    let cids : take 2 (drop 2 a) ≡ take 2 (drop 2 b) = s.cid ∙ sym t.cid in
    let nsids : take 4 (drop 4 a) ≡ take 4 (drop 4 b) = s.nsid ∙ sym t.nsid in
    record {
      opcode = s.opcode ∙ sym t.opcode;
      fuse = s.fuse ∙ sym t.fuse;
      psdt = s.psdt ∙ sym t.psdt;
      identifiers = same_parts a b 2 2 4 cids nsids;
      rest = same_from a b 16 24 (omega arith) (s.mptr ∙ sym t.mptr) from24;
    }

-- strings that agree outside what is reserved read alike
pub agree_alike : (a b : List ℕ) → IsBytes 64 b → AgreeOutsideReserved a b → submission_of a ≡ submission_of b
agree_alike a b hb e =
    let t : IsSubmission (submission_of b) b = spells b hb in
    let later : (i n : ℕ) → take n (drop (16 + i) a) ≡ take n (drop (16 + i) b) =
    λ i n. ap (λ x. take n x) (sym (drop-drop i 16 a) ∙ ap (λ x. drop i x) e.rest ∙ drop-drop i 16 b) in
    found a (submission_of b) (record {
      typed = t.typed;
      opcode = e.opcode ∙ t.opcode;
      fuse = e.fuse ∙ t.fuse;
      psdt = e.psdt ∙ t.psdt;
      cid = part_within a b 2 6 0 2 (omega arith) e.identifiers ∙ t.cid;
      nsid = part_within a b 2 6 2 4 (omega arith) e.identifiers ∙ t.nsid;
      mptr = later 0 8 ∙ t.mptr;
      sgl1 = later 8 16 ∙ t.sgl1;
      cdw10 = later 24 4 ∙ t.cdw10;
      cdw11 = later 28 4 ∙ t.cdw11;
      cdw12 = later 32 4 ∙ t.cdw12;
      cdw13 = later 36 4 ∙ t.cdw13;
      cdw14 = later 40 4 ∙ t.cdw14;
      cdw15 = later 44 4 ∙ t.cdw15;
    })

pub read_alike : (a b : List ℕ) → IsBytes 64 a → IsBytes 64 b → ((submission_of a ≡ submission_of b) ↔ AgreeOutsideReserved a b)
read_alike a b ha hb = (alike_agree a b ha hb, agree_alike a b hb)
