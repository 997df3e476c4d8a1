-- A submitter under way: commands are taken into flight, and the oldest ones end.
use Rattle.machine_model.specs.Events as events
use Rattle.std.proofs.Common.{◌≡◌, ℕ, ◌==◌, Bool, true, false, ◌||◌, Option, Some, None, Result, Ok, Err, find, IfOk, MatchBool, refl, ap, sym, ◌∙◌, ◌+◌, ◌<◌, OnOk, OnErr, List, [], ◌∷◌, ◌++◌, length, position, arith, eq-eqb, ◌-◌, ◌≤◌, suc, zero, map, get_or, subst}
use Rattle.std.proofs.{Math.Seq.{get_or-append_seam, set-append_seam}, lemmas.{Bool.{eqb-true, or_parts}, Iterator.Adapters.position_from-zero}}
use Rattle.std.{proofs.lemmas.{List.{append-nil, length-append, append_assoc, length-map, map-append}, Option.slice_get-get_or}, specs.Bool.OnTrue}
use Rattle.std.specs.{List.{list_any, position_from}, Option.{option_map, option_map_or}, Prelude.{option_and_then, is_none, slice_get, slice_set}}
use Rattle.driver_book.proofs.{Runs.logs_of_jobs_are_runs, StandsInReceipts.{both_true, closed_is_another}}
use Rattle.driver_book.specs.{Calls.{Does, Receives, no_receipt, receipt, is_open_for, settled, settled_at}, Entries.{Entry, asked_of}, History.{LeadsTo, accepted}, Laws.IsTrustedLog, Reports.Report}
use Rattle.driver_book.specs.{State.{BookContents, SeatContents, AreOfJobs}, declared.report.{Asked.Asked, Receipt.Receipt}}
use Rattle.entry_codec.specs.declared.status.Status.{Status}
use Rattle.io_commands.specs.{Asked.Request, Drafts.DraftContents, Values.{FinishedContents, TicketContents}}
use Rattle.machine_model.specs.{State.{State, Record, is_at}, Step.{finished_from, asked_by, pages_with_bytes}}
use Rattle.step_core.specs.{Opening.opening_of, Replies.collect_reply}
use Rattle.host_core.specs.{Opening.refusal_of_config, declared.{config.Config.Config, refused.Refused.Refused}}
use Rattle.driver_threads.specs.{Behind.{added, behind}, Ends.{ends_of, statuses_of, status_of, Agree, AwaitEach, Awaits, EndsWith, FlyingOf, IsUnderWay}, Runs.RanFrom}
use Rattle.driver_threads.specs.{Values.EndOf, declared.jobs.{JobEnd.TheVariants.{Done, Refused as JobEndRefused}, JobRefusal.JobRefusal}}
use Rattle.block_image.specs.Blocks.{IsImage}
use Rattle.page_memory.proofs.Lists.{found_is}

-- A finished command is that of the ticket with which it was collected.

abbrev q_of : Option FinishedContents → ℕ
q_of f = option_map_or (λ f. f.q) f 0

abbrev cid_of : Option FinishedContents → ℕ
cid_of f = option_map_or (λ f. f.cid) f 0

-- what is made of a record has its queue and identifier
made : (s : State) (r : Record) (f : FinishedContents) → finished_from s r ≡ Some f → (f.q ≡ r.q) × (f.cid ≡ r.cid)
made s r f h = by_request (asked_by r.work) r.status h
  where
    by_request : (asked : Option Request) (status : Option Status)
        → option_and_then (λ request. option_map (λ st. record { q = r.q; cid = r.cid; request = request; status = st; hints = r.hints; data_pages = pages_with_bytes s.memory r.data_pages; chain_pages = pages_with_bytes s.memory r.chain_pages }) status) asked ≡ Some f
        → (f.q ≡ r.q) × (f.cid ≡ r.cid)
    by_request None status h = cc
    by_request (Some request) None h = cc
    by_request (Some request) (Some st) h = (sym (ap q_of h), sym (ap cid_of h))

named : (s : State) (q cid : ℕ) (f : FinishedContents) → option_and_then (finished_from s) (find (is_at q cid) s.host.records) ≡ Some f → (f.q ≡ q) × (f.cid ≡ cid)
named s q cid f h = by_record (find (is_at q cid) s.host.records) (found_is (is_at q cid) s.host.records) h
  where
    by_record : (o : Option Record) → ((r : Record) → o ≡ Some r → is_at q cid r ≡ true) → option_and_then (finished_from s) o ≡ Some f → (f.q ≡ q) × (f.cid ≡ cid)
    by_record None is h = cc
    by_record (Some r) is h =
        let both = both_true (r.q == q) (r.cid == cid) (is r refl) in
        let same = made s r f h in
        (same.0 ∙ eqb-true r.q q both.0, same.1 ∙ eqb-true r.cid cid both.1)

pub host_answers : (A B : Type 0) (b : Bool) → MatchBool (b || true) A B → A
host_answers A B true h = h
host_answers A B false h = h

pub collects_command : (old new : BookContents) (q cid : ℕ) (result : Result FinishedContents (Refused TicketContents)) → Does old None (events.Collect q cid) (collect_reply result) new
    → IfOk result (λ f. (f.q ≡ q) × (f.cid ≡ cid))
collects_command old new q cid (Ok f) does = named old.world q cid f (host_answers _ _ old.world.trusted does.0.1).1
collects_command old new q cid (Err r) does = tt

-- A job that ended, beside the receipt of its command.

-- Ends

pub ends_push : {K : Type 0} (ends : List (EndOf K)) (e : EndOf K) → ends_of (ends ++ e ∷ []) ≡ ends_of ends ++ ends_of (e ∷ [])
ends_push [] (Done status bytes) = refl
ends_push [] (JobEndRefused why) = refl
ends_push (Done status bytes ∷ ends) e = ap (λ (xs : List (Option Status)). Some status ∷ xs) (ends_push ends e)
ends_push (JobEndRefused why ∷ ends) e = ends_push ends e

all_ended : {K : Type 0} (ends : List (EndOf K)) → list_any is_none (ends_of ends) ≡ false
all_ended [] = refl
all_ended (Done status bytes ∷ ends) = all_ended ends
all_ended (JobEndRefused why ∷ ends) = all_ended ends

open_statuses : (receipts : List Receipt) → list_any (λ (r : Receipt). is_none r.status) receipts ≡ list_any is_none (statuses_of receipts)
open_statuses [] = refl
open_statuses (r ∷ receipts) = rw (open_statuses receipts) refl

-- receipts that agree with ends have their statuses
pub none_open : {K : Type 0} (receipts : List Receipt) (ends : List (EndOf K)) → Agree receipts ends → list_any (λ (r : Receipt). is_none r.status) receipts ≡ false
none_open receipts ends agree = open_statuses receipts ∙ ap (λ (xs : List (Option Status)). list_any is_none xs) agree ∙ all_ended ends

-- Receipts

-- the first receipt that is open for a command comes after those that are not open
found_from : (q cid number i : ℕ) (asked : Asked) (old rest : List Receipt) → list_any (λ (r : Receipt). is_none r.status) old ≡ false
    → position_from (is_open_for q cid) i (old ++ receipt number q cid asked None ∷ rest) ≡ Some (i + length old)
found_from q cid number i asked [] rest none = rw (eq-eqb q q refl, eq-eqb cid cid refl) (ap (λ (n : ℕ). Some n) (omega arith))
found_from q cid number i asked (r ∷ old) rest none =
    let both = or_parts (is_none r.status) (list_any (λ (r : Receipt). is_none r.status) old) none in
    rw (closed_is_another q cid r both.0) (found_from q cid number (i + 1) asked old rest both.1 ∙ ap (λ (n : ℕ). Some n) (omega arith))

found_oldest : (q cid number : ℕ) (asked : Asked) (old rest : List Receipt) → list_any (λ (r : Receipt). is_none r.status) old ≡ false → position (is_open_for q cid) (old ++ receipt number q cid asked None ∷ rest) ≡ Some (length old)
found_oldest q cid number asked old rest none =
    let first : 0 + length old ≡ length old = omega arith in
    position_from-zero (is_open_for q cid) (old ++ receipt number q cid asked None ∷ rest) ∙ (found_from q cid number 0 asked old rest none ∙ ap (λ (n : ℕ). Some n) first)

pub settled_oldest : (q cid number : ℕ) (asked : Asked) (status : Option Status) (old rest : List Receipt) → list_any (λ (r : Receipt). is_none r.status) old ≡ false
    → settled q cid status (old ++ receipt number q cid asked None ∷ rest) ≡ old ++ receipt number q cid asked status ∷ rest
settled_oldest q cid number asked status old rest none =
    let waiting : Receipt = receipt number q cid asked None in
    ap (λ (i : Option ℕ). settled_at i status (old ++ waiting ∷ rest)) (found_oldest q cid number asked old rest none)
    ∙ ap (λ (r : Receipt). slice_set (old ++ waiting ∷ rest) (length old) (record r { status = status })) (get_or-append_seam old waiting rest no_receipt)
    ∙ set-append_seam old waiting rest (receipt number q cid asked status)

pub status_is : (old rest : List Receipt) (r : Receipt) → status_of (old ++ r ∷ rest) (length old) ≡ r.status
status_is old rest r =
    let long : length (old ++ r ∷ rest) ≡ length old + length (r ∷ rest) = length-append old (r ∷ rest) in
    let there : slice_get (old ++ r ∷ rest) (length old) ≡ Some r = slice_get-get_or (old ++ r ∷ rest) (length old) r (omega (arith, long)) ∙ ap (λ (x : Receipt). Some x) (get_or-append_seam old r rest r) in
    ap (λ (x : Option Receipt). option_and_then (λ (y : Receipt). y.status) x) there

pub statuses_push : (old : List Receipt) (r : Receipt) → statuses_of (old ++ r ∷ []) ≡ statuses_of old ++ r.status ∷ []
statuses_push [] r = refl
statuses_push (x ∷ old) r = ap (λ (xs : List (Option Status)). x.status ∷ xs) (statuses_push old r)

-- one more job ended ..
pub agree_more : {K : Type 0} (old new : List Receipt) (ends : List (EndOf K)) (e : EndOf K) → Agree old ends → statuses_of new ≡ statuses_of old ++ ends_of (e ∷ []) → Agree new (ends ++ e ∷ [])
agree_more old new ends e agree more = more ∙ ap (λ (xs : List (Option Status)). xs ++ ends_of (e ∷ [])) agree ∙ sym (ends_push ends e)

-- .. or was refused
pub agree_refused : {K : Type 0} (receipts : List Receipt) (ends : List (EndOf K)) (why : JobRefusal) → Agree receipts ends → Agree receipts (ends ++ JobEndRefused why ∷ [])
agree_refused receipts ends why agree = agree ∙ sym (ends_push ends (JobEndRefused why) ∙ append-nil (ends_of ends))

-- where each of the jobs has its end, none was cut off
pub all_carried : {T E : Type 0} (r : Result T E) (many before jobs : ℕ) {A : Type 0} → before ≡ 0 → OnErr r (many < before + jobs) → OnOk r A → many ≡ jobs → A
all_carried (Ok x) many before jobs none fewer agree same = agree
all_carried (Err e) many before jobs none fewer agree same = absurd (omega (arith, none, fewer, same))

-- A submitter under way: commands are taken into flight, and the oldest ones end.

-- Nothing is in flight

pub none_is : {D : Type 0} (flying : List (FlyingOf D)) (n : ℕ) → n ≡ length flying → n ≡ 0 → flying ≡ []
none_is [] n long none = refl
none_is (f ∷ flying) n long none = absurd (omega (arith, long, none))

pub begins : {D K : Type 0} (receipts : List Receipt) (ends : List (EndOf K)) (flying : List (FlyingOf D)) → receipts ≡ [] → ends ≡ [] → flying ≡ [] → IsUnderWay receipts ends flying
begins receipts ends flying no_receipts no_ends no_tickets = rw (no_receipts, no_ends, no_tickets) (record { ended = []; awaited = []; receipts_are = refl; agree = refl; await = tt })

all_ended_under_way : {K : Type 0} (D : Type 0) (awaited ended receipts : List Receipt) (ends : List (EndOf K)) → receipts ≡ ended ++ awaited → Agree ended ends → AwaitEach {D = D} awaited [] → Agree receipts ends
all_ended_under_way D [] ended receipts ends are agree await = ap statuses_of (are ∙ append-nil ended) ∙ agree
all_ended_under_way D (r ∷ awaited) ended receipts ends are agree await = absurd await

pub landed : {D K : Type 0} (receipts : List Receipt) (ends : List (EndOf K)) (flying : List (FlyingOf D)) (n : ℕ) → n ≡ length flying → n ≡ 0 → IsUnderWay receipts ends flying → Agree receipts ends
landed {D} receipts ends flying n long none u = all_ended_under_way D u.awaited u.ended receipts ends u.receipts_are u.agree (rw (sym (none_is flying n long none)) u.await)

-- One more command

pub await_push : {D : Type 0} (awaited : List Receipt) (flying : List (FlyingOf D)) (number : ℕ) (asked : Asked) (f : FlyingOf D) → AwaitEach awaited flying → AwaitEach (awaited ++ receipt number f.ticket.q f.ticket.cid asked None ∷ []) (flying ++ f ∷ [])
await_push [] [] number asked f await = (refl, tt)
await_push [] (u ∷ flying) number asked f await = absurd await
await_push (r ∷ awaited) [] number asked f await = absurd await
await_push (r ∷ awaited) (u ∷ flying) number asked f await = (await.0, await_push awaited flying number asked f await.1)

pub launched : {D K : Type 0} (receipts new : List Receipt) (ends : List (EndOf K)) (flying : List (FlyingOf D)) (f : FlyingOf D) → IsUnderWay receipts ends flying → Awaits receipts f.ticket new → IsUnderWay new ends (flying ++ f ∷ [])
launched receipts new ends flying f u (number, asked, awaits) =
    let one : List Receipt = receipt number f.ticket.q f.ticket.cid asked None ∷ [] in record {
      ended = u.ended;
      awaited = u.awaited ++ one;
      receipts_are = awaits ∙ ap (λ (rs : List Receipt). rs ++ one) u.receipts_are ∙ append_assoc u.ended u.awaited one;
      agree = u.agree;
      await = await_push u.awaited flying number asked f u.await;
    }

-- The oldest one

pub await_length : {D : Type 0} (awaited : List Receipt) (flying : List (FlyingOf D)) → AwaitEach awaited flying → length awaited ≡ length flying
await_length [] [] await = refl
await_length [] (u ∷ flying) await = absurd await
await_length (r ∷ awaited) [] await = absurd await
await_length (r ∷ awaited) (u ∷ flying) await = ap suc (await_length awaited flying await.1)

-- a seat has a receipt for each command in flight
pub in_flight_fit : {D K : Type 0} (receipts : List Receipt) (ends : List (EndOf K)) (flying : List (FlyingOf D)) → IsUnderWay receipts ends flying → length flying ≤ length receipts
in_flight_fit receipts ends flying u =
    let long : length receipts ≡ length u.ended + length u.awaited = ap length u.receipts_are ∙ length-append u.ended u.awaited in
    let same : length u.awaited ≡ length flying = await_length u.awaited flying u.await in
    omega (arith, long, same)

or_true : (b : Bool) → (b || true) ≡ true
or_true true = refl
or_true false = refl

is_open : (number q cid : ℕ) (asked : Asked) (ended awaited : List Receipt) → list_any (is_open_for q cid) (ended ++ receipt number q cid asked None ∷ awaited) ≡ true
is_open number q cid asked [] awaited = rw (eq-eqb q q refl, eq-eqb cid cid refl) refl
is_open number q cid asked (r ∷ ended) awaited = rw (is_open number q cid asked ended awaited) (or_true (is_open_for q cid r))

-- where a submission is accepted, the seat awaits its ticket from then on
pub awaits_ticket : (log : List Entry) (old new : SeatContents) (d : DraftContents) (r : Result TicketContents (Refused DraftContents)) → Receives log old d r new
    → IfOk r (λ t. t ≡ record { q = d.q; cid = d.cid }) → IfOk r (λ t. list_any (is_open_for t.q t.cid) new.receipts ≡ true)
awaits_ticket log old new d (Ok t) receives same =
    rw (same, ap (λ (s : SeatContents). s.receipts) receives) (is_open (accepted log) d.q d.cid (asked_of d.request) old.receipts [])
awaits_ticket log old new d (Err r) receives same = tt

oldest_open : {D : Type 0} (awaited ended receipts : List Receipt) (f : FlyingOf D) (flying : List (FlyingOf D)) → receipts ≡ ended ++ awaited → AwaitEach awaited (f ∷ flying) → list_any (is_open_for f.ticket.q f.ticket.cid) receipts ≡ true
oldest_open [] ended receipts f flying are await = absurd await
oldest_open (r ∷ awaited) ended receipts f flying are await =
    ap (list_any (is_open_for f.ticket.q f.ticket.cid)) (are ∙ ap (λ (r : Receipt). ended ++ r ∷ awaited) await.0) ∙ is_open r.number f.ticket.q f.ticket.cid r.asked ended awaited

-- the seat awaits the oldest command in flight
pub oldest_is_open : {D K : Type 0} (receipts : List Receipt) (ends : List (EndOf K)) (f : FlyingOf D) (flying : List (FlyingOf D)) → IsUnderWay receipts ends (f ∷ flying) → list_any (is_open_for f.ticket.q f.ticket.cid) receipts ≡ true
oldest_is_open receipts ends f flying u = oldest_open u.awaited u.ended receipts f flying u.receipts_are u.await

oldest_ends : {D K : Type 0} (awaited ended receipts new : List Receipt) (ends : List (EndOf K)) (f : FlyingOf D) (flying : List (FlyingOf D)) (place : ℕ) (end : EndOf K)
    → receipts ≡ ended ++ awaited → Agree ended ends → AwaitEach awaited (f ∷ flying) → place ≡ length receipts - length (f ∷ flying) → EndsWith receipts f.ticket.q f.ticket.cid place end new
    → IsUnderWay new (ends ++ end ∷ []) flying
oldest_ends [] ended receipts new ends f flying place end are agree await at ends_with = absurd await
oldest_ends (r ∷ awaited) ended receipts new ends f flying place end are agree await at (status, settles, tells) =
    let told : Receipt = receipt r.number f.ticket.q f.ticket.cid r.asked status in
    let was : receipts ≡ ended ++ receipt r.number f.ticket.q f.ticket.cid r.asked None ∷ awaited = are ∙ ap (λ (r : Receipt). ended ++ r ∷ awaited) await.0 in
    let is : new ≡ ended ++ told ∷ awaited = settles ∙ ap (settled f.ticket.q f.ticket.cid status) was ∙ settled_oldest f.ticket.q f.ticket.cid r.number r.asked status ended awaited (none_open ended ends agree) in
    let long : length receipts ≡ length ended + length (r ∷ awaited) = ap length are ∙ length-append ended (r ∷ awaited) in
    let same : length awaited ≡ length flying = await_length awaited flying await.1 in
    let here : place ≡ length ended = omega (arith, at, long, same) in
    let as_told : status_of new place ≡ status = ap (λ (rs : List Receipt). status_of rs place) is ∙ ap (status_of (ended ++ told ∷ awaited)) here ∙ status_is ended awaited told in
    let more : statuses_of (ended ++ told ∷ []) ≡ statuses_of ended ++ ends_of (end ∷ []) =
    statuses_push ended told ∙ ap (λ (s : Option Status). statuses_of ended ++ s ∷ []) (sym as_told) ∙ ap (λ (xs : List (Option Status)). statuses_of ended ++ xs) (sym tells) in record {
      ended = ended ++ told ∷ [];
      awaited = awaited;
      receipts_are = is ∙ sym (append_assoc ended (told ∷ []) awaited);
      agree = agree_more ended (ended ++ told ∷ []) ends end agree more;
      await = await.1;
    }

-- the oldest command in flight ended
pub one_ended : {D K : Type 0} (receipts new : List Receipt) (ends : List (EndOf K)) (f : FlyingOf D) (flying : List (FlyingOf D)) (place : ℕ) (end : EndOf K)
    → IsUnderWay receipts ends (f ∷ flying) → place ≡ length receipts - length (f ∷ flying) → EndsWith receipts f.ticket.q f.ticket.cid place end new → IsUnderWay new (ends ++ end ∷ []) flying
one_ended receipts new ends f flying place end u at ends_with = oldest_ends u.awaited u.ended receipts new ends f flying place end u.receipts_are u.agree u.await at ends_with

-- a job was refused
pub one_refused : {D K : Type 0} (receipts : List Receipt) (ends : List (EndOf K)) (flying : List (FlyingOf D)) (why : JobRefusal) → IsUnderWay receipts ends flying → IsUnderWay receipts (ends ++ JobEndRefused why ∷ []) flying
one_refused receipts ends flying why u = record {
  ended = u.ended;
  awaited = u.awaited;
  receipts_are = u.receipts_are;
  agree = agree_refused u.ended ends why u.agree;
  await = u.await;
}

-- Lists of submitters, one after the other.

pub behind_none : {A : Type 0} (xs : List (List A)) → behind xs [] ≡ xs
behind_none [] = refl
behind_none (x ∷ xs) = refl

-- one more list
pub behind_more : {A : Type 0} (old ys : List (List A)) (y : List A) → behind old (ys ++ y ∷ []) ≡ added (behind old ys) (length ys) y
behind_more {A} [] [] y = refl
behind_more {A} [] (z ∷ ys) y = ap (λ (zs : List (List A)). z ∷ zs) (behind_more [] ys y)
behind_more {A} (x ∷ old) [] y = ap (λ (zs : List (List A)). (x ++ y) ∷ zs) (behind_none old)
behind_more {A} (x ∷ old) (z ∷ ys) y = ap (λ (zs : List (List A)). (x ++ z) ∷ zs) (behind_more old ys y)

pub behind_long : {A : Type 0} (old ys : List (List A)) → length ys ≤ length (behind old ys)
behind_long [] ys = omega arith
behind_long (x ∷ old) [] = omega arith
behind_long (x ∷ old) (y ∷ ys) = let rest = behind_long old ys in omega arith

-- the list at an index grew
pub added_there : {X A : Type 0} (items : X → List A) (lists : List X) (i : ℕ) (list new : X) (later : List A) → i < length lists → list ≡ get_or lists i list → items new ≡ items list ++ later
    → map items (slice_set lists i new) ≡ added (map items lists) i later
added_there items [] i list new later within is more = absurd (omega (arith, within))
added_there items (x ∷ lists) zero list new later within is more = ap (λ ys. ys ∷ map items lists) (more ∙ ap (λ y. items y ++ later) is)
added_there items (x ∷ lists) (suc i) list new later within is more = ap (λ ls. items x ∷ ls) (added_there items lists i list new later (omega (arith, within)) is more)

-- one more list comes after them
pub added_last : {X A : Type 0} (items : X → List A) (lists : List X) (i : ℕ) (list : X) → i ≡ length lists → map items (lists ++ list ∷ []) ≡ added (map items lists) i (items list)
added_last items [] i list at = refl
added_last items (x ∷ lists) zero list at = absurd (omega (arith, at))
added_last items (x ∷ lists) (suc i) list at = ap (λ ls. items x ∷ ls) (added_last items lists i list (omega (arith, at)))

pub place_within : {X A : Type 0} (items : X → List A) (lists now came : List X) (n : ℕ) → n ≡ length came → map items now ≡ behind (map items lists) (map items came) → n ≤ length now
place_within items lists now came n at are =
    let long = behind_long (map items lists) (map items came) in
    omega (arith, at, long, ap length are, length-map now items, length-map came items)

pub one_added : {X A : Type 0} (items : X → List A) (lists now new came : List X) (next : X) (n : ℕ) → n ≡ length came → map items now ≡ behind (map items lists) (map items came)
    → map items new ≡ added (map items now) n (items next) → map items new ≡ behind (map items lists) (map items (came ++ next ∷ []))
one_added items lists now new came next n at were is =
    is ∙ (ap (λ ls. added ls n (items next)) were ∙ (ap (λ k. added (behind (map items lists) (map items came)) k (items next)) (at ∙ sym (length-map came items))
    ∙ (sym (behind_more (map items lists) (map items came) (items next)) ∙ ap (behind (map items lists)) (sym (map-append items came (next ∷ []))))))

-- A run of threads over a book that takes the steps of jobs alone is a trusted one.

pub run_of_jobs : (b : Bool) (config : Config) (image : List ℕ) (report : Report) (book : BookContents) → refusal_of_config config ≡ None → IsImage image → RanFrom (opening_of config image) report book
    → OnTrue b (AreOfJobs book.log) → OnTrue b (IsTrustedLog image book.log book.world)
run_of_jobs true config image report book fits is_image ran jobs =
    let leads : LeadsTo (opening_of config image) book.log book.world = subst (λ (b : BookContents). LeadsTo (opening_of config image) b.log b.world) (sym ran.same) ran.closed.of.legal in
    logs_of_jobs_are_runs config image book.log book.world fits is_image leads jobs
run_of_jobs false config image report book fits is_image ran jobs = tt
