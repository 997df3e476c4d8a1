use Rattle.std.proofs.Common.{◌≡◌, ◌∙◌, ◌++◌, List, ℕ, Result, Ok, Err, ap, replicate, take, if◌then◌else◌}
use Rattle.std.proofs.lemmas.List.{take-replicate}
use Rattle.std.specs.Result.{is_ok, OnOk}
use Rattle.io_commands.specs.BlockSizes.{block_bytes}
use Rattle.views.specs.Stored.{bytes_of_block, bytes_by, zero_block}
use Rattle.views.proofs.explain.namespace.put_block.Goals as goal

where_ok : {A E : Type 0} (r : Result A E) (new old more more' : List ℕ) → more ≡ more' → new ≡ (if is_ok r then old ++ more else old) → OnOk r (new ≡ old ++ more')
where_ok (Ok a) new old more more' same e = rw (← same) e
where_ok (Err a) new old more more' same e = tt

pub returns-in-Some-clause-bytes : goal.returns-in-Some-clause-bytes
returns-in-Some-clause-bytes c =
    let bytes : ℕ = block_bytes c.args.size in
    let cut : take c.bytes.result c.in-Some.block.now.bytes ≡ take bytes c.in-Some.block.now.bytes = ap (λ (n : ℕ). take n c.in-Some.block.now.bytes) c.bytes.ensures.bytes in
    let same : take bytes c.in-Some.block.now.bytes ≡ bytes_of_block bytes c.args.given.now c.args.number = ap (bytes_by bytes) c.in-Some.ensures in
    where_ok c.extend_from_slice.result _ _ _ _ (cut ∙ same) c.extend_from_slice.ensures.items

pub returns-in-None-clause-bytes : goal.returns-in-None-clause-bytes
unfolding zero_block
returns-in-None-clause-bytes c =
    let bytes : ℕ = block_bytes c.args.size in
    let zeros : take c.bytes-in-None.result (replicate 4096 0) ≡ replicate c.bytes-in-None.result 0 = take-replicate c.bytes-in-None.result 4096 0 c.bytes-in-None.ensures.most in
    let cut : replicate c.bytes-in-None.result 0 ≡ zero_block bytes = ap zero_block c.bytes-in-None.ensures.bytes in
    let same : zero_block bytes ≡ bytes_of_block bytes c.args.given.now c.args.number = ap (bytes_by bytes) c.in-None.ensures in
    where_ok c.extend_from_slice-in-None.result _ _ _ _ (zeros ∙ cut ∙ same) c.extend_from_slice-in-None.ensures.items
