-- Lemmas on the bytes of completion entries.
use Rattle.std.proofs.Common.{arith, ◌≡◌, ◌↔◌, ℕ, ◌+◌, ◌/◌, ◌%◌, ◌<◌, ◌≤◌, ◌^◌, List, take, drop, refl, sym, subst, ap, ◌∙◌, nat_eq}
use Rattle.std.proofs.lemmas.{List.{drop-drop, drop_all}, Nat.{from_le_bytes-to_le_bytes_2, from_le_bytes-to_le_bytes_4}}
use Rattle.std.specs.{Int.{w16, w32, to_le_bytes, from_le_bytes}}
use Rattle.entry_codec.proofs.Bits.{bit_fits, fields_of, hints_fit, is_bit, part_is_bytes, halfword_back, word_back, halfword_fits, word_fits, same_from}
use Rattle.entry_codec.specs.{Bytes.IsBytes, Completion.{completion_bytes, completion_of, last_halfword, FitsCompletion, IsComEntry, IsCompletion, AgreeOutsideIgnored}}
use Rattle.entry_codec.specs.declared.completion.ComEntry.{ComEntry}

-- 16 bytes spell what is read from them
pub spells : (bytes : List ℕ) → IsBytes 16 bytes → IsCompletion (completion_of bytes) bytes
unfolding completion_of
spells bytes h =
    let part : (at n : ℕ) → at + n ≤ 16 → IsBytes n (take n (drop at bytes)) = part_is_bytes 16 bytes h in
    let last = part 14 2 (omega arith) in
    record {
      typed = record {
        dw0 = word_fits _ _ (part 0 4 (omega arith));
        sqhd = halfword_fits _ _ (part 8 2 (omega arith));
        sqid = halfword_fits _ _ (part 10 2 (omega arith));
        cid = halfword_fits _ _ (part 12 2 (omega arith));
        sc = omega arith;
      };
      fits = record { sct = omega arith; hints = record { retry_delay = omega arith } };
      dw0 = word_back _ (part 0 4 (omega arith));
      sqhd = halfword_back _ (part 8 2 (omega arith));
      sqid = halfword_back _ (part 10 2 (omega arith));
      cid = halfword_back _ (part 12 2 (omega arith));
      halfword = halfword_back _ last ∙ ap (λ x. to_le_bytes w16 x) (sym (fields_of bytes (halfword_fits _ _ last)));
    }

-- a last halfword has one phase, one status and one set of hints
pub record HasFields (n : ℕ) (entry : ComEntry) : Type 0 where
  pub phase : nat_eq (n % 2) 1 ≡ entry.phase
  pub sc : n / 2 % 256 ≡ entry.status.sc
  pub sct : n / 512 % 8 ≡ entry.status.sct
  pub retry_delay : n / 4096 % 4 ≡ entry.hints.retry_delay
  pub more : nat_eq (n / 16384 % 2) 1 ≡ entry.hints.more
  pub do_not_retry : nat_eq (n / 32768) 1 ≡ entry.hints.do_not_retry

has_fields : (n : ℕ) (entry : ComEntry) → IsComEntry entry → FitsCompletion entry → n ≡ last_halfword entry → HasFields n entry
has_fields n entry typed fits e =
    let phase = bit_fits entry.phase in
    let more = bit_fits entry.hints.more in
    let do_not_retry = bit_fits entry.hints.do_not_retry in
    let delay = fits.hints.retry_delay in
    record {
      phase = is_bit (n % 2) entry.phase (omega arith);
      sc = omega (arith, typed.sc);
      sct = omega (arith, typed.sc, fits.sct);
      retry_delay = omega (arith, typed.sc, fits.sct);
      more = is_bit (n / 16384 % 2) entry.hints.more (omega (arith, typed.sc, fits.sct));
      do_not_retry = is_bit (n / 32768) entry.hints.do_not_retry (omega (arith, typed.sc, fits.sct));
    }

-- it fits its bytes
halfword_below : (entry : ComEntry) → IsComEntry entry → FitsCompletion entry → last_halfword entry < 2 ^ 16
halfword_below entry typed fits =
    let bit = bit_fits entry.phase in
    let hints = hints_fit entry.hints fits.hints in
    omega (arith, typed.sc, fits.sct)

-- what bytes spell is what is read from them
pub found : (bytes : List ℕ) (entry : ComEntry) → IsCompletion entry bytes → completion_of bytes ≡ entry
unfolding completion_of
found bytes entry h =
    let dw0 : from_le_bytes w32 (take 4 bytes) ≡ entry.dw0 = ap (λ x. from_le_bytes w32 x) h.dw0 ∙ from_le_bytes-to_le_bytes_4 entry.dw0 h.typed.dw0 in
    let half : (at n : ℕ) → take 2 (drop at bytes) ≡ to_le_bytes w16 n → n < 2 ^ 16 → from_le_bytes w16 (take 2 (drop at bytes)) ≡ n =
    λ at n e fits. ap (λ x. from_le_bytes w16 x) e ∙ from_le_bytes-to_le_bytes_2 n fits in
    let fields = has_fields _ entry h.typed h.fits (half 14 (last_halfword entry) h.halfword (halfword_below entry h.typed h.fits)) in
    rw (
      dw0,
      half 8 entry.sqhd h.sqhd h.typed.sqhd,
      half 10 entry.sqid h.sqid h.typed.sqid,
      half 12 entry.cid h.cid h.typed.cid,
      fields.phase,
      fields.sct,
      fields.sc,
      fields.retry_delay,
      fields.more,
      fields.do_not_retry,
    ) refl

-- 16 bytes spell an entry exactly where it is read from them
pub one_spelling : (bytes : List ℕ) (entry : ComEntry) → IsBytes 16 bytes → (IsCompletion entry bytes ↔ (completion_of bytes ≡ entry))
one_spelling bytes entry h = (found bytes entry, λ e. subst (λ (x : ComEntry). IsCompletion x bytes) e (spells bytes h))

-- the bytes that are written for an entry spell it
pub spells_itself : (entry : ComEntry) → IsComEntry entry → FitsCompletion entry → IsCompletion entry (completion_bytes entry)
unfolding completion_bytes
spells_itself entry typed fits =
    record { typed = typed; fits = fits; dw0 = refl; sqhd = refl; sqid = refl; cid = refl; halfword = refl }

-- and they are read as it
pub round_trip : (entry : ComEntry) → IsComEntry entry → FitsCompletion entry → completion_of (completion_bytes entry) ≡ entry
round_trip entry typed fits = found (completion_bytes entry) entry (spells_itself entry typed fits)

-- strings that read alike agree outside what is ignored
pub alike_agree : (a b : List ℕ) → IsBytes 16 a → IsBytes 16 b → completion_of a ≡ completion_of b → AgreeOutsideIgnored a b
alike_agree a b ha hb e =
    let s : IsCompletion (completion_of b) a = subst (λ (x : ComEntry). IsCompletion x a) e (spells a ha) in
    let t : IsCompletion (completion_of b) b = spells b hb in
    let ended : drop 16 a ≡ drop 16 b = drop_all 16 a (omega (arith, ha.count)) ∙ sym (drop_all 16 b (omega (arith, hb.count))) in
    let from14 = same_from a b 14 16 (omega arith) (s.halfword ∙ sym t.halfword) ended in
    let from12 = same_from a b 12 14 (omega arith) (s.cid ∙ sym t.cid) from14 in
    let from10 = same_from a b 10 12 (omega arith) (s.sqid ∙ sym t.sqid) from12 in
    record {
      dw0 = s.dw0 ∙ sym t.dw0;
      rest = same_from a b 8 10 (omega arith) (s.sqhd ∙ sym t.sqhd) from10;
    }

-- strings that agree outside what is ignored read alike
pub agree_alike : (a b : List ℕ) → IsBytes 16 b → AgreeOutsideIgnored a b → completion_of a ≡ completion_of b
agree_alike a b hb e =
    let t : IsCompletion (completion_of b) b = spells b hb in
    let later : (i : ℕ) → take 2 (drop (8 + i) a) ≡ take 2 (drop (8 + i) b) =
    λ i. ap (λ x. take 2 x) (sym (drop-drop i 8 a) ∙ ap (λ x. drop i x) e.rest ∙ drop-drop i 8 b) in
    found a (completion_of b) (record {
      typed = t.typed;
      fits = t.fits;
      dw0 = e.dw0 ∙ t.dw0;
      sqhd = later 0 ∙ t.sqhd;
      sqid = later 2 ∙ t.sqid;
      cid = later 4 ∙ t.cid;
      halfword = later 6 ∙ t.halfword;
    })

pub read_alike : (a b : List ℕ) → IsBytes 16 a → IsBytes 16 b → ((completion_of a ≡ completion_of b) ↔ AgreeOutsideIgnored a b)
read_alike a b ha hb = (alike_agree a b ha hb, agree_alike a b hb)
