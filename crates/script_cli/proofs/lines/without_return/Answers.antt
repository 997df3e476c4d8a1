-- The last byte is a carriage return, or it is not, or there is none.
use Rattle.std.proofs.{Common.{◌≡◌, ◌++◌, ◌∷◌, [], false, nat_eq, refl}, lemmas.Bool.ne_eqb}
use Rattle.script_cli.proofs.Texts.{unreturned_at_return, unreturned_elsewhere}
use Rattle.script_cli.proofs.lines.without_return.Goals as goal

pub returns-then-last-eq13 : goal.returns-then-last-eq13
returns-then-last-eq13 c =
    let whole : c.args.line.now ≡ c.in-Some.front.now ++ (13 ∷ []) = rw (← c.if-last-eq13.true) (c.in-Some.ensures.cases.0) in
    rw whole (rw (unreturned_at_return c.in-Some.front.now) refl)

pub returns-else-last-eq13 : goal.returns-else-last-eq13
returns-else-last-eq13 c =
    let other : nat_eq c.in-Some.last.now 13 ≡ false = ne_eqb c.in-Some.last.now 13 c.if-last-eq13.false in
    rw (c.in-Some.ensures.cases.0) (rw (unreturned_elsewhere c.in-Some.front.now c.in-Some.last.now other) refl)
