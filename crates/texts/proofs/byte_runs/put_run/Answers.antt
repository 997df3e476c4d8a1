-- The bytes, put this often, and how many these are.
use Rattle.std.proofs.Common.{rules, arith, ◌≡◌, ◌+◌, ◌*◌, ◌++◌, ◌∙◌, ℕ, List, ap, sym, Some, vec_len, length, add-one, append_assoc}
use Rattle.std.proofs.lemmas.{List.append-nil}
use Rattle.texts.{proofs.RunLemmas.{length_repeated, repeated_more, run_is}, specs.Runs.{repeated, run_parts, digit_bytes}}
use Rattle.texts.proofs.byte_runs.put_run.Goals as goal
use Rattle.texts.proofs.byte_runs.put_run.Goals.{in_default-via-in-Some+else-len-room, in_default-via-in_default}

pub returns-in_default-clause-not_put : goal.returns-in_default-clause-not_put
returns-in_default-clause-not_put c =
    let bytes = c.in_ok-bytes.bytes in
    let all = repeated bytes.items c.in_ok-digits.times in
    let parts : run_parts c.args.run.now ≡ Some (c.in_ok-digits.digits.now, c.in_ok-digits.times) = search rules in
    let said : digit_bytes c.in_ok-digits.digits.now ≡ Some bytes.items = search rules in
    let many : length all ≡ length bytes.items * c.in_ok-digits.times = length_repeated bytes.items c.in_ok-digits.times in
    let same : length bytes.items ≡ c.len-2.result = cc in
    let all_many : length all ≡ c.len-2.result * c.in_ok-digits.times = many ∙ ap (λ (n : ℕ). n * c.in_ok-digits.times) same in (
      all,
      run_is _ _ _ _ parts said,
      elim c.in_default.branch [
        | in_default-via-in-Some+else-len-room w ↦ omega (arith, all_many, w.in-Some.ensures)
        | in_default-via-in_default w ↦ omega (arith, all_many, w.in_default.ensures)
      ],
    )

pub loop-init : goal.loop-init
unfolding repeated
loop-init c = record { put = sym (append-nil c.args.out.now.items); len = omega arith }

pub loop-preserved : goal.loop-preserved
loop-preserved c = record {
  put =
      let more : c.extend_from_slice.new.self.items ≡ c.loop.out.items ++ c.in_ok-bytes.bytes.items = cc (c.in_ok-extend_from_slice.ensures.items) in
      rw (add-one) (more ∙ (ap (λ (xs : List ℕ). xs ++ c.in_ok-bytes.bytes.items) c.loop.invariant.put ∙ (append_assoc c.args.out.now.items (repeated c.in_ok-bytes.bytes.items c.loop.counter) c.in_ok-bytes.bytes.items
      ∙ ap (λ (xs : List ℕ). c.args.out.now.items ++ xs) (sym (repeated_more c.in_ok-bytes.bytes.items c.loop.counter)))));
  len = omega (arith, c.in_ok-extend_from_slice.ensures.len);
}

pub returns-clause-put : goal.returns-clause-put
returns-clause-put c =
    let parts : run_parts c.args.run.now ≡ Some (c.in_ok-digits.digits.now, c.in_ok-digits.times) = search rules in
    let said : digit_bytes c.in_ok-digits.digits.now ≡ Some c.in_ok-bytes.bytes.items = search rules in
    let end : c.loop.counter ≡ c.in_ok-digits.times = omega arith in
    (repeated c.in_ok-bytes.bytes.items c.in_ok-digits.times, run_is _ _ _ _ parts said, rw end at c.loop.invariant.put)

pub returns-clause-few : goal.returns-clause-few
returns-clause-few c =
    let end : c.loop.counter ≡ c.in_ok-digits.times = omega arith in
    let many : vec_len c.loop.out ≡ vec_len c.args.out.now + vec_len c.in_ok-bytes.bytes * c.in_ok-digits.times = rw end at c.loop.invariant.len in
    let same : vec_len c.in_ok-bytes.bytes * c.in_ok-digits.times ≡ c.len-2.result * c.in_ok-digits.times = ap (λ (n : ℕ). n * c.in_ok-digits.times) (sym c.len-2.ensures) in
    omega (arith, many, same, c.in-Some.ensures)
