-- One more name is the nearest of all so far, or not.
use Rattle.std.proofs.Common.{rules, ◌≡◌, ◌<◌, ℕ, [], List, Bor, true, get_or, length, map, string_bytes, string_len, sym}
use Rattle.std.specs.Option.{option_map}
use Rattle.texts.{proofs.NearLemmas.{SoFar, nearer_here, not_nearer_here}, specs.Nearest.{are_few, edits}}
use Rattle.texts.proofs.faults.near.nearest.Goals as goal
use Rattle.texts.proofs.faults.near.nearest.Goals.{then-edits-least+then-are_few, else-edits-least, else-edits-least-via-then-edits-least+else-are_few, else-edits-least-via-else-edits-least}

pub loop-name-preserved : goal.loop-name-preserved
unfolding edits
loop-name-preserved c =
    let text = string_bytes c.in-Some.text in
    let d : Bor (List ℕ) = record { ref_ptr = (0, 0); now = [] } in
    let so_many : c.in_ok-edits.edits ≡ edits text (get_or c.args.names.now c.loop-name.name-index d).now = rw (sym c.as_str.ensures.value) c.in_ok-edits.ensures.value in
    let len : string_len c.in-Some.text ≡ length text = search rules in
    let inside : c.loop-name.name-index < length c.args.names.now = c.loop-name-test.true in
    let no_more : SoFar text (map (λ name. name.now) c.args.names.now) c.loop-name.name-index c.loop-name.least (option_map (λ name. name.now) c.loop-name.nearest) = c.loop-name.invariant in
    elim c.if-edits-least.branch [
      | then-edits-least+then-are_few w ↦
          rw (w.nearest-is, w.least-is) (nearer_here text c.args.names.now d c.loop-name.name-index c.loop-name.least c.in_ok-edits.edits _ no_more inside so_many w.if-edits-least.true (rw (← len, ← w.len.ensures) (sym w.if-are_few.ensures)))
      | else-edits-least w ↦
          rw (w.nearest-is, w.least-is) (not_nearer_here text c.args.names.now d c.loop-name.name-index c.loop-name.least c.in_ok-edits.edits _ no_more inside so_many (λ few. elim w.else-edits-least.branch [
            | else-edits-least-via-then-edits-least+else-are_few v ↦
                let some : are_few c.in_ok-edits.edits v.len.result ≡ true = rw (v.len.ensures, len) few in
                cc
            | else-edits-least-via-else-edits-least v ↦ v.if-edits-least.false
          ]))
    ]
