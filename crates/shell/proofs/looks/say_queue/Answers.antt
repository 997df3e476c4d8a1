use Rattle.std.proofs.Common.{Some}
use Rattle.shell.proofs.Shown.{on_ok}
use Rattle.shell.proofs.looks.say_queue.Goals as goal

pub returns : goal.returns
returns c = on_ok c.say_ring.result _ _ (λ text. record {
  name = c.name.result.now;
  rings = Some c.in-Some.rings;
  are = record {
    state = c.in-Some.ensures.state;
    host = c.in-Some.ensures.host;
    outstanding = c.in-Some.ensures.outstanding;
    halves = c.in-Some.ensures.halves;
    rung = c.in-Some.ensures.rung;
    fetching = c.in-Some.ensures.fetching;
    posting = c.in-Some.ensures.posting;
  };
  said = text;
}) c.say_ring.ensures
