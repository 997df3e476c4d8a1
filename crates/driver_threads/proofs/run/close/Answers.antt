-- The ends of a run are told as lists of ends, which are as long as the lists that hold them.
use Rattle.std.proofs.{Common.{ap, length, map, subst, ◌∙◌}, lemmas.Simd.map-map}
use Rattle.driver_book.specs.{History.{LeadsBy, LeadsTo}, State.SeatContents}
use Rattle.driver_threads.specs.Ends.{ends_of, statuses_of}
use Rattle.machine_model.specs.State.{State}
use Rattle.driver_threads.proofs.run.close.Goals as goal

pub returns-in-Ok-clause-ends : goal.returns-in-Ok-clause-ends
returns-in-Ok-clause-ends g c = ap (map length) c.of.ensures ∙ map-map length (λ list. list.items) c.args.hand.lists.items

pub returns-in-Ok-clause-agree : goal.returns-in-Ok-clause-agree
returns-in-Ok-clause-agree g c =
    let receipts = ap (map statuses_of) c.in-Ok.ensures.report.receipts in
    let seats = map-map statuses_of (λ (seat : SeatContents). seat.receipts) c.args.hand.seats.items in
    let lists = map-map ends_of (λ list. list.items) c.args.hand.lists.items in
    cc (receipts, seats, lists, c.of.ensures, c.requires.agree)

pub returns-in-Ok-clause-closed : goal.returns-in-Ok-clause-closed
returns-in-Ok-clause-closed g c = record {
  seats = c.args.hand.seats.items;
  before = c.args.book;
  closed = record {
    of = record {
      opens = c.in-Ok.ensures.opening;
      legal = subst (λ (opening : State). LeadsTo opening c.args.book.log c.args.book.world) c.in-Ok.ensures.opening c.in-Ok.ensures.legal;
      submitted = subst (λ (opening : State). LeadsBy opening c.args.book.log c.args.book.drafts c.args.book.world) c.check.ensures.opening c.check.ensures.submitted;
      sound = c.in-Ok.ensures.sound;
    };
    stand = c.in-Ok.ensures.stand;
    no_more = c.in-Ok.ensures.no_more;
    all_seats = c.in-Ok.ensures.all_seats;
    done = c.in-Ok.ensures.done;
    reports = c.in-Ok.ensures.report;
  };
  same = c.in-Ok.ensures.book;
}
