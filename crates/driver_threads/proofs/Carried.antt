-- What a submitter carries: a job is reserved and submitted, and the oldest in flight ends; then how all of them went.
use Rattle.machine_model.specs.Events as events
use Rattle.std.proofs.Common.{◌≡◌, ℕ, Bool, true, false, if◌then◌else◌, Option, Some, None, Result, Ok, Err, IfOk, IfErr, refl, ap, sym, subst, ◌∙◌, ◌+◌, ◌-◌, List, [], ◌∷◌, ◌++◌, length, map, arith, ◌<◌, ◌≤◌, OnOk, OnErr, IsErrAnd}
use Rattle.std.proofs.lemmas.List.{append-nil, append_assoc, length-append, map-append}
use Rattle.std.specs.{List.AllZip}
use Rattle.entry_codec.specs.declared.status.Status.{Status}
use Rattle.io_commands.specs.{Asked.Request, DataBytes.PagesOut, Drafts.DraftContents, Requests.brings_data, Values.{TicketContents}}
use Rattle.io_commands.specs.declared.request.Kind.{Kind}
use Rattle.machine_model.specs.{State.State, Step.IsReserved}
use Rattle.driver_book.specs.{Calls.{Does, receipt, settled, status_at}, Entries.asked_of, History.accepted, State.{SeatContents}, declared.report.{Asked.Asked, Receipt.Receipt}}
use Rattle.driver_book.proofs.Latest.{same_beginning, stands_on}
use Rattle.std.specs.Prelude.{slice_get}
use mathlib.Core.List.{IsPrefix}
use Rattle.driver_threads.proofs.UnderWay.{await_length, await_push, host_answers, none_is, none_open, settled_oldest, status_is}
use Rattle.driver_threads.specs.{Ends.{Agree, AwaitEach, FlyingOf, status_of, statuses_of}, Sharing.{Made, Submitted}, Values.{EndOf, JobOf}}
use Rattle.driver_threads.specs.Jobs.{AllWentBy, AreSubmitted, BytesOf, IsEnded, IsSubmitted, KeepsOf, RefusesJob, WentBy, padded, prepared, with_bytes_of}
use Rattle.driver_threads.specs.JobSteps.{Carries, CarriesOn, GivesUp, HoldsOfEach, data_of, number_of}
use Rattle.driver_threads.specs.declared.jobs.{JobEnd.TheVariants.{Done, Refused as JobEndRefused}, JobRefusal.JobRefusal}

-- What a book answers

pub reserved_as_asked : (opening : State) (q : ℕ) (request : Request) (d : DraftContents) → Made opening None (events.Reserve q request) (events.Reserved d) → (d.q ≡ q) × (d.request ≡ request)
reserved_as_asked opening q request d made =
    let is : IsReserved made.old.world q request d = (host_answers _ _ made.old.world.trusted made.does.0.1).1 in
    (is.queue, is.request)

-- The draft

-- whether its pages have the job's bytes or are as they came
same_but_pages : (came : Bool) (pages : PagesOut) (d : DraftContents) → (let d' : DraftContents = if came then d else record d { data_pages = pages } in (d'.q ≡ d.q) × (d'.cid ≡ d.cid) × (d'.request ≡ d.request))
same_but_pages true pages d = (refl, refl, refl)
same_but_pages false pages d = (refl, refl, refl)

same_queue : (kind : Kind) (bytes : List ℕ) (d : DraftContents) → (with_bytes_of kind bytes d).q ≡ d.q
same_queue kind bytes d = (same_but_pages (brings_data kind) (padded d.request bytes d.data_pages) d).0

same_identifier : (kind : Kind) (bytes : List ℕ) (d : DraftContents) → (with_bytes_of kind bytes d).cid ≡ d.cid
same_identifier kind bytes d = (same_but_pages (brings_data kind) (padded d.request bytes d.data_pages) d).1

same_request : (kind : Kind) (bytes : List ℕ) (d : DraftContents) → (with_bytes_of kind bytes d).request ≡ d.request
same_request kind bytes d = (same_but_pages (brings_data kind) (padded d.request bytes d.data_pages) d).2

-- How jobs went, and one more

went_agree : {D K : Type 0} (bytes_of : BytesOf D) (Keeps : KeepsOf D K) (opening : State) (seat : ℕ) (jobs : List (JobOf D)) (receipts : List Receipt) (ends : List (EndOf K)) → WentBy bytes_of Keeps opening seat jobs receipts ends → Agree receipts ends
went_agree bytes_of Keeps opening seat [] [] [] went = refl
went_agree bytes_of Keeps opening seat [] [] (e ∷ ends) went = absurd went
went_agree bytes_of Keeps opening seat [] (r ∷ receipts) ends went = absurd went
went_agree bytes_of Keeps opening seat (job ∷ jobs) receipts [] went = absurd went
went_agree bytes_of Keeps opening seat (job ∷ jobs) receipts (JobEndRefused why ∷ ends) went = went_agree bytes_of Keeps opening seat jobs receipts ends went.1
went_agree bytes_of Keeps opening seat (job ∷ jobs) [] (Done status bytes ∷ ends) went = absurd went
went_agree bytes_of Keeps opening seat (job ∷ jobs) (r ∷ receipts) (Done status bytes ∷ ends) went =
    ap (λ (s : Option Status). s ∷ statuses_of receipts) went.2 ∙ ap (λ (xs : List (Option Status)). Some status ∷ xs) (went_agree bytes_of Keeps opening seat jobs receipts ends went.3)

went_more : {D K : Type 0} (bytes_of : BytesOf D) (Keeps : KeepsOf D K) (opening : State) (seat : ℕ) (jobs : List (JobOf D)) (receipts : List Receipt) (ends : List (EndOf K)) (job : JobOf D) (r : Receipt) (status : Status) (kept : K)
    → WentBy bytes_of Keeps opening seat jobs receipts ends → (submitted : IsSubmitted bytes_of opening seat job r) → IsEnded Keeps opening seat job.bytes r (prepared (bytes_of job.bytes) submitted.draft) kept → r.status ≡ Some status
    → WentBy bytes_of Keeps opening seat (jobs ++ job ∷ []) (receipts ++ r ∷ []) (ends ++ Done status kept ∷ [])
went_more bytes_of Keeps opening seat [] [] [] job r status kept went submitted ended told = (submitted, ended, told, tt)
went_more bytes_of Keeps opening seat [] [] (e ∷ ends) job r status kept went submitted ended told = absurd went
went_more bytes_of Keeps opening seat [] (s ∷ receipts) ends job r status kept went submitted ended told = absurd went
went_more bytes_of Keeps opening seat (j ∷ jobs) receipts [] job r status kept went submitted ended told = absurd went
went_more bytes_of Keeps opening seat (j ∷ jobs) receipts (JobEndRefused why ∷ ends) job r status kept went submitted ended told = (went.0, went_more bytes_of Keeps opening seat jobs receipts ends job r status kept went.1 submitted ended told)
went_more bytes_of Keeps opening seat (j ∷ jobs) [] (Done s b ∷ ends) job r status kept went submitted ended told = absurd went
went_more bytes_of Keeps opening seat (j ∷ jobs) (x ∷ receipts) (Done s b ∷ ends) job r status kept went submitted ended told =
    (went.0, went.1, went.2, went_more bytes_of Keeps opening seat jobs receipts ends job r status kept went.3 submitted ended told)

went_refused : {D K : Type 0} (bytes_of : BytesOf D) (Keeps : KeepsOf D K) (opening : State) (seat : ℕ) (jobs : List (JobOf D)) (receipts : List Receipt) (ends : List (EndOf K)) (job : JobOf D) (why : JobRefusal)
    → WentBy bytes_of Keeps opening seat jobs receipts ends → RefusesJob bytes_of opening job why → WentBy bytes_of Keeps opening seat (jobs ++ job ∷ []) receipts (ends ++ JobEndRefused why ∷ [])
went_refused bytes_of Keeps opening seat [] [] [] job why went refuses = (refuses, tt)
went_refused bytes_of Keeps opening seat [] [] (e ∷ ends) job why went refuses = absurd went
went_refused bytes_of Keeps opening seat [] (s ∷ receipts) ends job why went refuses = absurd went
went_refused bytes_of Keeps opening seat (j ∷ jobs) receipts [] job why went refuses = absurd went
went_refused bytes_of Keeps opening seat (j ∷ jobs) receipts (JobEndRefused w ∷ ends) job why went refuses = (went.0, went_refused bytes_of Keeps opening seat jobs receipts ends job why went.1 refuses)
went_refused bytes_of Keeps opening seat (j ∷ jobs) [] (Done s b ∷ ends) job why went refuses = absurd went
went_refused bytes_of Keeps opening seat (j ∷ jobs) (x ∷ receipts) (Done s b ∷ ends) job why went refuses = (went.0, went.1, went.2, went_refused bytes_of Keeps opening seat jobs receipts ends job why went.3 refuses)

submitted_more : {D : Type 0} (bytes_of : BytesOf D) (opening : State) (seat : SeatContents) (jobs : List (JobOf D)) (receipts : List Receipt) (job : JobOf D) (r : Receipt)
    → AreSubmitted bytes_of opening seat jobs receipts → (one : IsSubmitted bytes_of opening seat.number job r) → slice_get seat.known r.number ≡ Some (prepared (bytes_of job.bytes) one.draft)
    → AreSubmitted bytes_of opening seat (jobs ++ job ∷ []) (receipts ++ r ∷ [])
submitted_more bytes_of opening seat [] [] job r all one known = (one, known, tt)
submitted_more bytes_of opening seat [] (x ∷ receipts) job r all one known = absurd all
submitted_more bytes_of opening seat (j ∷ jobs) [] job r all one known = absurd all
submitted_more bytes_of opening seat (j ∷ jobs) (x ∷ receipts) job r all one known = (all.0, all.1, submitted_more bytes_of opening seat jobs receipts job r all.2 one known)

-- a seat of the same number
of_number : {D : Type 0} (bytes_of : BytesOf D) (opening : State) (seat next : ℕ) (job : JobOf D) (r : Receipt) → next ≡ seat → IsSubmitted bytes_of opening seat job r → IsSubmitted bytes_of opening next job r
of_number bytes_of opening seat next job r same s = record {
  draft = s.draft;
  reserved = s.reserved;
  old = s.old;
  new = s.new;
  of = s.of;
  does = subst (λ (n : ℕ). Does s.old (Some n) (events.Submit (prepared (bytes_of job.bytes) s.draft)) events.Accepted s.new) (sym same) s.does;
  number = s.number;
  asked = s.asked;
  queue = s.queue;
  identifier = s.identifier;
}

-- a seat that knows more
known_on : {D : Type 0} (bytes_of : BytesOf D) (opening : State) (seat next : SeatContents) (jobs : List (JobOf D)) (receipts : List Receipt) → next.number ≡ seat.number → IsPrefix seat.known next.known
    → AreSubmitted bytes_of opening seat jobs receipts → AreSubmitted bytes_of opening next jobs receipts
unfolding of_number
known_on bytes_of opening seat next [] [] same knows all = tt
known_on bytes_of opening seat next [] (x ∷ receipts) same knows all = absurd all
known_on bytes_of opening seat next (j ∷ jobs) [] same knows all = absurd all
known_on bytes_of opening seat next (j ∷ jobs) (x ∷ receipts) same knows all =
    (of_number bytes_of opening seat.number next.number j x same all.0, stands_on seat.known next.known x.number (prepared (bytes_of j.bytes) all.0.draft) knows all.1, known_on bytes_of opening seat next jobs receipts same knows all.2)

-- the number of a receipt after others
number_behind : (ended awaited : List Receipt) (r : Receipt) → number_of (ended ++ r ∷ awaited) (length ended) ≡ r.number
number_behind [] awaited r = refl
number_behind (x ∷ ended) awaited r = number_behind ended awaited r

-- What a submitter carries

pub carries_none : {D K : Type 0} (bytes_of : BytesOf D) (Keeps : KeepsOf D K) (opening : State) (seat : SeatContents) (ends : List (EndOf K)) (flying : List (FlyingOf D))
    → seat.receipts ≡ [] → ends ≡ [] → flying ≡ [] → Carries bytes_of Keeps opening seat ends flying []
carries_none bytes_of Keeps opening seat ends flying no_receipts no_ends none_flying =
    rw (no_ends, none_flying) (record { done = []; left = []; ended = []; awaited = []; jobs_are = refl; receipts_are = no_receipts; went = tt; submitted = tt; given = refl; await = tt })

none_left : {D K : Type 0} (bytes_of : BytesOf D) (Keeps : KeepsOf D K) (opening : State) (seat : SeatContents) (done left jobs : List (JobOf D)) (ended awaited receipts : List Receipt) (ends : List (EndOf K))
    → jobs ≡ done ++ left → receipts ≡ ended ++ awaited
    → WentBy bytes_of Keeps opening seat.number done ended ends → AreSubmitted bytes_of opening seat left awaited → AwaitEach {D = D} awaited [] → WentBy bytes_of Keeps opening seat.number jobs receipts ends
none_left bytes_of Keeps opening seat done [] jobs ended [] receipts ends jobs_are are went submitted await = rw (jobs_are, are, append-nil done, append-nil ended) went
none_left bytes_of Keeps opening seat done (j ∷ left) jobs ended [] receipts ends jobs_are are went submitted await = absurd submitted
none_left bytes_of Keeps opening seat done left jobs ended (r ∷ awaited) receipts ends jobs_are are went submitted await = absurd await

-- once nothing is in flight, all of them went this way
pub carries_landed : {D K : Type 0} (bytes_of : BytesOf D) (Keeps : KeepsOf D K) (opening : State) (seat : SeatContents) (ends : List (EndOf K)) (flying : List (FlyingOf D)) (n : ℕ) (jobs : List (JobOf D))
    → n ≡ length flying → n ≡ 0 → Carries bytes_of Keeps opening seat ends flying jobs → WentBy bytes_of Keeps opening seat.number jobs seat.receipts ends
carries_landed bytes_of Keeps opening seat ends flying n jobs long none c =
    none_left bytes_of Keeps opening seat c.done c.left jobs c.ended c.awaited seat.receipts ends c.jobs_are c.receipts_are c.went c.submitted
    (subst (AwaitEach c.awaited) (none_is flying n long none) c.await)

-- a job is refused while nothing is in flight
pub carries_refused : {D K : Type 0} (bytes_of : BytesOf D) (Keeps : KeepsOf D K) (opening : State) (seat : SeatContents) (ends : List (EndOf K)) (flying : List (FlyingOf D)) (n : ℕ) (jobs : List (JobOf D)) (job : JobOf D) (why : JobRefusal)
    → n ≡ length flying → n ≡ 0 → Carries bytes_of Keeps opening seat ends flying jobs → RefusesJob bytes_of opening job why
    → Carries bytes_of Keeps opening seat (ends ++ JobEndRefused why ∷ []) flying (jobs ++ job ∷ [])
carries_refused bytes_of Keeps opening seat ends flying n jobs job why long none c refuses =
    rw (none_is flying n long none)
    (record {
      done = jobs ++ job ∷ [];
      left = [];
      ended = seat.receipts;
      awaited = [];
      jobs_are = sym (append-nil (jobs ++ job ∷ []));
      receipts_are = sym (append-nil seat.receipts);
      went = went_refused bytes_of Keeps opening seat.number jobs seat.receipts ends job why (carries_landed bytes_of Keeps opening seat ends flying n jobs long none c) refuses;
      submitted = tt;
      given = refl;
      await = tt;
    })

abbrev pub ticket_of : DraftContents → TicketContents
ticket_of d = record { q = d.q; cid = d.cid }

-- a job is submitted with the draft that was reserved for it
pub carries_launched : {D K : Type 0} (bytes_of : BytesOf D) (Keeps : KeepsOf D K) (opening : State) (seat next : SeatContents) (ends : List (EndOf K)) (flying : List (FlyingOf D)) (jobs : List (JobOf D)) (job : JobOf D) (d : DraftContents) (t : TicketContents)
    → Made opening None (events.Reserve job.q job.request) (events.Reserved d) → Submitted opening seat (prepared (bytes_of job.bytes) d) (Ok t) next
    → t ≡ ticket_of (prepared (bytes_of job.bytes) d)
    → Carries bytes_of Keeps opening seat ends flying jobs → Carries bytes_of Keeps opening next ends (flying ++ record { ticket = t; given = job.bytes } ∷ []) (jobs ++ job ∷ [])
carries_launched {D} bytes_of Keeps opening seat next ends flying jobs job d t made sub is c =
    let f : FlyingOf D = record { ticket = t; given = job.bytes } in
    let p : DraftContents = prepared (bytes_of job.bytes) d in
    let number : ℕ = accepted sub.old.log in
    let asked : Asked = asked_of p.request in
    let same : next.number ≡ seat.number = ap (λ (s : SeatContents). s.number) sub.receives in
    let q_is : t.q ≡ p.q = ap (λ (t : TicketContents). t.q) is in
    let cid_is : t.cid ≡ p.cid = ap (λ (t : TicketContents). t.cid) is in
    let one : IsSubmitted bytes_of opening next.number job (receipt number t.q t.cid asked None) =
    record {
      draft = d;
      reserved = made;
      old = sub.old;
      new = sub.new;
      of = sub.of;
      does = subst (λ (n : ℕ). Does sub.old (Some n) (events.Submit p) events.Accepted sub.new) (sym same) sub.does;
      number = refl;
      asked = ap asked_of (same_request d.request.kind (bytes_of job.bytes) d ∙ (reserved_as_asked opening job.q job.request d made).1);
      queue = q_is ∙ same_queue d.request.kind (bytes_of job.bytes) d ∙ (reserved_as_asked opening job.q job.request d made).0;
      identifier = cid_is ∙ same_identifier d.request.kind (bytes_of job.bytes) d;
    } in
    let got : List Receipt = receipt number t.q t.cid asked None ∷ [] in
    let receipts : next.receipts ≡ seat.receipts ++ got = ap (λ (s : SeatContents). s.receipts) sub.receives ∙ ap (λ (q : ℕ). seat.receipts ++ receipt number q p.cid asked None ∷ []) (sym q_is) ∙ ap (λ (cid : ℕ). seat.receipts ++ receipt number t.q cid asked None ∷ []) (sym cid_is) in
    record {
      done = c.done;
      left = c.left ++ job ∷ [];
      ended = c.ended;
      awaited = c.awaited ++ got;
      jobs_are = ap (λ (js : List (JobOf D)). js ++ job ∷ []) c.jobs_are ∙ append_assoc c.done c.left (job ∷ []);
      receipts_are = receipts ∙ ap (λ (rs : List Receipt). rs ++ got) c.receipts_are ∙ append_assoc c.ended c.awaited got;
      went = subst (λ (n : ℕ). WentBy bytes_of Keeps opening n c.done c.ended ends) (sym same) c.went;
      submitted =
          submitted_more bytes_of opening next c.left c.awaited job (receipt number t.q t.cid asked None) (known_on bytes_of opening seat next c.left c.awaited same sub.learns.0 c.submitted) one sub.learns.1;
      given = map-append (λ (j : JobOf D). j.bytes) c.left (job ∷ []) ∙ ap (λ (ds : List D). ds ++ job.bytes ∷ []) c.given ∙ sym (map-append (λ (f : FlyingOf D). f.given) flying (f ∷ []));
      await = await_push c.awaited flying number asked f c.await;
    }

-- the first of a list, and the others
abbrev first_or : {A : Type 0} → A → List A → A
first_or x [] = x
first_or x (y ∷ ys) = y

abbrev others : {A : Type 0} → List A → List A
others [] = []
others (x ∷ xs) = xs

oldest_went : {D K : Type 0} (bytes_of : BytesOf D) (Keeps : KeepsOf D K) (opening : State) (seat next : SeatContents) (done left jobs : List (JobOf D)) (ended awaited : List Receipt) (ends : List (EndOf K))
    (f : FlyingOf D) (flying : List (FlyingOf D)) (place : ℕ) (end : EndOf K)
    → place ≡ length seat.receipts - length (f ∷ flying) → GivesUp Keeps opening seat f.ticket.q f.ticket.cid f.given place end next
    → jobs ≡ done ++ left → seat.receipts ≡ ended ++ awaited → WentBy bytes_of Keeps opening seat.number done ended ends → AreSubmitted bytes_of opening seat left awaited
    → data_of left ≡ f.given ∷ map (λ f. f.given) flying → AwaitEach awaited (f ∷ flying) → Carries bytes_of Keeps opening next (ends ++ end ∷ []) flying jobs
oldest_went bytes_of Keeps opening seat next done left jobs ended [] ends f flying place end at up jobs_are are went submitted given await = absurd await
oldest_went bytes_of Keeps opening seat next done [] jobs ended (r ∷ awaited) ends f flying place end at up jobs_are are went submitted given await = absurd submitted
oldest_went {D} bytes_of Keeps opening seat next done (job ∷ left) jobs ended (r ∷ awaited) ends f flying place end at up jobs_are are went submitted given await =
    let host = up.released.old.world.host in
    let t : TicketContents = f.ticket in
    let status : Option Status = status_at host t.q t.cid in
    let told : Receipt = receipt r.number t.q t.cid r.asked status in
    let same : next.number ≡ seat.number = ap (λ (s : SeatContents). s.number) up.released.settles in
    let was : seat.receipts ≡ ended ++ receipt r.number t.q t.cid r.asked None ∷ awaited = are ∙ ap (λ (r : Receipt). ended ++ r ∷ awaited) await.0 in
    let is : next.receipts ≡ ended ++ told ∷ awaited =
    ap (λ (s : SeatContents). s.receipts) up.released.settles
    ∙ ap (λ (q : ℕ). settled q up.command.cid (status_at host q up.command.cid) seat.receipts) up.queue
    ∙ ap (λ (cid : ℕ). settled t.q cid (status_at host t.q cid) seat.receipts) up.identifier
    ∙ ap (settled t.q t.cid status) was
    ∙ settled_oldest t.q t.cid r.number r.asked status ended awaited (none_open ended ends (went_agree bytes_of Keeps opening seat.number done ended ends went)) in
    let long : length seat.receipts ≡ length ended + length (r ∷ awaited) = ap length are ∙ length-append ended (r ∷ awaited) in
    let as_many : length awaited ≡ length flying = await_length awaited flying await.1 in
    let here : place ≡ length ended = omega (arith, at, long, as_many) in
    let as_told : status_of next.receipts place ≡ status = ap (λ (rs : List Receipt). status_of rs place) is ∙ ap (status_of (ended ++ told ∷ awaited)) here ∙ status_is ended awaited told in
    let said : status ≡ Some up.end_is.status = sym as_told ∙ up.end_is.told in
    let of_job : IsSubmitted bytes_of opening seat.number job told =
    record {
      draft = submitted.0.draft;
      reserved = submitted.0.reserved;
      old = submitted.0.old;
      new = submitted.0.new;
      of = submitted.0.of;
      does = submitted.0.does;
      number = submitted.0.number;
      asked = submitted.0.asked;
      queue = sym (ap (λ (r : Receipt). r.q) await.0) ∙ submitted.0.queue;
      identifier = sym (ap (λ (r : Receipt). r.cid) await.0) ∙ submitted.0.identifier;
    } in
    let of_data : job.bytes ≡ f.given = ap (first_or f.given) given in
    let numbers : number_of seat.receipts place ≡ r.number =
    ap (λ (rs : List Receipt). number_of rs place) was ∙ ap (number_of (ended ++ receipt r.number t.q t.cid r.asked None ∷ awaited)) here ∙ number_behind ended awaited (receipt r.number t.q t.cid r.asked None) in
    let gave_up : IsEnded Keeps opening seat.number job.bytes told (prepared (bytes_of job.bytes) submitted.0.draft) up.end_is.kept =
    record {
      command = up.command;
      before = up.collected.old;
      after = up.collected.new;
      is = up.collected.of;
      collects = up.collected.does;
      numbered = stands_on seat.known up.collected.old.drafts r.number (prepared (bytes_of job.bytes) submitted.0.draft) up.collected.knows submitted.1;
      latest = up.collected.latest ∙ ap (λ (n : ℕ). Some n) numbers;
      keeps = subst (λ (d : D). Keeps d up.command up.end_is.kept) (sym of_data) up.end_is.keeps;
      old = up.released.old;
      new = up.released.new;
      of = up.released.of;
      does = up.released.does;
      status = refl;
    } in
    let more : WentBy bytes_of Keeps opening seat.number (done ++ job ∷ []) (ended ++ told ∷ []) (ends ++ Done up.end_is.status up.end_is.kept ∷ []) =
    went_more bytes_of Keeps opening seat.number done ended ends job told up.end_is.status up.end_is.kept went of_job gave_up said in
    record {
      done = done ++ job ∷ [];
      left = left;
      ended = ended ++ told ∷ [];
      awaited = awaited;
      jobs_are = jobs_are ∙ sym (append_assoc done (job ∷ []) left);
      receipts_are = is ∙ sym (append_assoc ended (told ∷ []) awaited);
      went = rw (same, up.end_is.end_is) more;
      submitted = known_on bytes_of opening seat next left awaited same (same_beginning seat.known next.known (ap (λ (s : SeatContents). s.known) up.released.settles)) submitted.2;
      given = ap others given;
      await = await.1;
    }

-- the oldest command in flight ended
pub carries_ended : {D K : Type 0} (bytes_of : BytesOf D) (Keeps : KeepsOf D K) (opening : State) (seat next : SeatContents) (ends : List (EndOf K)) (f : FlyingOf D) (flying : List (FlyingOf D)) (jobs : List (JobOf D)) (place : ℕ) (end : EndOf K)
    → place ≡ length seat.receipts - length (f ∷ flying) → GivesUp Keeps opening seat f.ticket.q f.ticket.cid f.given place end next → Carries bytes_of Keeps opening seat ends (f ∷ flying) jobs
    → Carries bytes_of Keeps opening next (ends ++ end ∷ []) flying jobs
carries_ended bytes_of Keeps opening seat next ends f flying jobs place end at up c =
    oldest_went bytes_of Keeps opening seat next c.done c.left jobs c.ended c.awaited ends f flying place end at up c.jobs_are c.receipts_are c.went c.submitted c.given c.await

-- The jobs of all submitters

pub all_went_more : {D K : Type 0} (bytes_of : BytesOf D) (Keeps : KeepsOf D K) (opening : State) (seat : ℕ) (lists : List (List (JobOf D))) (reports : List (List Receipt)) (later : List (List (EndOf K))) (jobs : List (JobOf D)) (receipts : List Receipt) (ends : List (EndOf K))
    → AllWentBy bytes_of Keeps opening lists reports later → WentBy bytes_of Keeps opening seat jobs receipts ends → AllWentBy bytes_of Keeps opening (lists ++ jobs ∷ []) (reports ++ receipts ∷ []) (later ++ ends ∷ [])
all_went_more bytes_of Keeps opening seat [] [] [] jobs receipts ends all went = ((seat, went), tt)
all_went_more bytes_of Keeps opening seat [] [] (e ∷ later) jobs receipts ends all went = absurd all
all_went_more bytes_of Keeps opening seat [] (r ∷ reports) later jobs receipts ends all went = absurd all
all_went_more bytes_of Keeps opening seat (j ∷ lists) [] later jobs receipts ends all went = absurd all
all_went_more bytes_of Keeps opening seat (j ∷ lists) (r ∷ reports) [] jobs receipts ends all went = absurd all
all_went_more bytes_of Keeps opening seat (j ∷ lists) (r ∷ reports) (e ∷ later) jobs receipts ends all went = (all.0, all_went_more bytes_of Keeps opening seat lists reports later jobs receipts ends all.1 went)

-- the last of the results of lists that fit
pub record LastFits {A R : Type 0} (Holds : A → R → Type 0) (xs : List A) (ys : List R) (y : R) : Type 0 where
  pub before : List A
  pub last : A
  pub are : xs ≡ before ++ last ∷ []
  pub all : AllZip Holds before ys
  pub fits : Holds last y

pub last_fits : {A R : Type 0} (Holds : A → R → Type 0) (xs : List A) (ys : List R) (y : R) → AllZip Holds xs (ys ++ y ∷ []) → LastFits Holds xs ys y
last_fits Holds [] [] y all = absurd all
last_fits Holds [] (z ∷ ys) y all = absurd all
last_fits Holds (x ∷ []) [] y all = record { before = []; last = x; are = refl; all = tt; fits = all.0 }
last_fits Holds (x ∷ w ∷ xs) [] y all = absurd all.1
last_fits Holds (x ∷ xs) (z ∷ ys) y all =
    let rest = last_fits Holds xs ys y all.1 in
    record { before = x ∷ rest.before; last = rest.last; are = ap (λ zs. x ∷ zs) rest.are; all = (all.0, rest.all); fits = rest.fits }

-- What threads give back

-- the first lists are those of the threads that were started
pub fits_first : {D H R : Type 0} (Holds : List (JobOf D) → R → Type 0) (jobs_of : H → List (JobOf D)) (handles : List H) (lists later : List (List (JobOf D))) (results : List R) → map jobs_of handles ++ later ≡ lists
    → AllZip (λ handle result. Holds (jobs_of handle) result) handles results → HoldsOfEach Holds lists results
fits_first Holds jobs_of [] lists later [] are all = tt
fits_first Holds jobs_of [] lists later (r ∷ results) are all = absurd all
fits_first Holds jobs_of (h ∷ handles) lists later [] are all = absurd all
fits_first {D} Holds jobs_of (h ∷ handles) lists later (r ∷ results) are all =
    subst (λ (ls : List (List (JobOf D))). HoldsOfEach Holds ls (r ∷ results)) are (all.0, fits_first Holds jobs_of handles (map jobs_of handles ++ later) later results refl all.1)

-- of as many results as there are lists, this holds of each
pub fits_all : {A R : Type 0} (Holds : A → R → Type 0) (xs : List A) (ys : List R) → length ys ≡ length xs → HoldsOfEach Holds xs ys → AllZip Holds xs ys
fits_all Holds [] [] long all = tt
fits_all Holds [] (y ∷ ys) long all = absurd (omega (arith, long))
fits_all Holds (x ∷ xs) [] long all = absurd (omega (arith, long))
fits_all Holds (x ∷ xs) (y ∷ ys) long all = (all.0, fits_all Holds xs ys (omega (arith, long)) all.1)

pub fits_push : {H R : Type 0} (Holds : H → R → Type 0) (xs : List H) (ys : List R) (x : H) (y : R) → AllZip Holds xs ys → Holds x y → AllZip Holds (xs ++ x ∷ []) (ys ++ y ∷ [])
fits_push Holds [] [] x y all one = (one, tt)
fits_push Holds [] (w ∷ ys) x y all one = absurd all
fits_push Holds (z ∷ xs) [] x y all one = absurd all
fits_push Holds (z ∷ xs) (w ∷ ys) x y all one = (all.0, fits_push Holds xs ys x y all.1 one)

-- one more submitter was started
pub begun_more : {D H X : Type 0} (jobs_of : H → List (JobOf D)) (items : X → List (JobOf D)) (handles : List H) (h : H) (rest later : List X) (x : X) (all : List (List (JobOf D))) → map jobs_of handles ++ map items rest ≡ all
    → rest ≡ x ∷ later → jobs_of h ≡ items x → map jobs_of (handles ++ h ∷ []) ++ map items later ≡ all
begun_more {D} jobs_of items handles h rest later x all were is same =
    ap (λ (ls : List (List (JobOf D))). ls ++ map items later) (map-append jobs_of handles (h ∷ []))
    ∙ append_assoc (map jobs_of handles) (jobs_of h ∷ []) (map items later)
    ∙ ap (λ (list : List (JobOf D)). map jobs_of handles ++ list ∷ map items later) same
    ∙ ap (λ ls. map jobs_of handles ++ map items ls) (sym is)
    ∙ were

-- all of them were yielded
pub same_items : {A : Type 0} (xs : List A) → map (λ x. x) xs ≡ xs
same_items [] = refl
same_items (x ∷ xs) = ap (λ ys. x ∷ ys) (same_items xs)

-- before a thread has given back what it carried through
pub none_went : {D K : Type 0} (bytes_of : BytesOf D) (Keeps : KeepsOf D K) {R : Type 0} (opening : State) (Holds : List (JobOf D) → R → Type 0) (lists : List (List (JobOf D))) → AllZip Holds lists [] → AllWentBy bytes_of Keeps opening lists [] []
none_went bytes_of Keeps opening Holds [] all = tt
none_went bytes_of Keeps opening Holds (j ∷ lists) all = absurd all

pub handed_all : {D K : Type 0} (bytes_of : BytesOf D) (Keeps : KeepsOf D K) {R : Type 0} (opening : State) (Holds : List (JobOf D) → R → Type 0) (lists : List (List (JobOf D))) (results yielded : List R) (reports : List (List Receipt)) (ends : List (List (EndOf K)))
    → yielded ≡ results → length yielded ≡ length lists → HoldsOfEach Holds lists results → ((ls : List (List (JobOf D))) → AllZip Holds ls yielded → AllWentBy bytes_of Keeps opening ls reports ends) → AllWentBy bytes_of Keeps opening lists reports ends
handed_all bytes_of Keeps opening Holds lists results yielded reports ends all long first went =
    went lists (fits_all Holds lists yielded long (subst (λ rs. HoldsOfEach Holds lists rs) (sym all) first))

-- a submission that was refused left the seat as it was, except for room
pub carries_same : {D K : Type 0} (bytes_of : BytesOf D) (Keeps : KeepsOf D K) (opening : State) (seat next : SeatContents) (ends : List (EndOf K)) (flying : List (FlyingOf D)) (jobs : List (JobOf D)) → next.receipts ≡ seat.receipts → next.number ≡ seat.number → next.known ≡ seat.known
    → Carries bytes_of Keeps opening seat ends flying jobs → Carries bytes_of Keeps opening next ends flying jobs
carries_same bytes_of Keeps opening seat next ends flying jobs receipts number known c = record {
  done = c.done;
  left = c.left;
  ended = c.ended;
  awaited = c.awaited;
  jobs_are = c.jobs_are;
  receipts_are = receipts ∙ c.receipts_are;
  went = rw number c.went;
  submitted = known_on bytes_of opening seat next c.left c.awaited number (same_beginning seat.known next.known known) c.submitted;
  given = c.given;
  await = c.await;
}

pub passed_on : {T E : Type 0} (r : Result T E) (P : E → Type 0) (e : E) → IsErrAnd r (λ x. x ≡ e) → P e → IfErr r P
passed_on (Ok v) P e same holds = tt
passed_on (Err x) P e same holds = rw same holds

pub at_most : {T E : Type 0} (r : Result T E) (many all : ℕ) → OnOk r (many ≡ all) → OnErr r (many < all) → many ≤ all
at_most (Ok v) many all same fewer = omega (arith, same)
at_most (Err e) many all same fewer = omega (arith, fewer)

-- where all have ended, all of them went this way
pub landed_so : {D K : Type 0} (bytes_of : BytesOf D) (Keeps : KeepsOf D K) {T E : Type 0} (r : Result T E) (opening : State) (seat next : SeatContents) (ends later : List (EndOf K)) (flying left : List (FlyingOf D)) (jobs : List (JobOf D)) (n : ℕ) → n ≡ length left
    → OnOk r (n ≡ 0) → OnOk r (CarriesOn bytes_of Keeps opening seat ends flying next later left) → Carries bytes_of Keeps opening seat ends flying jobs → OnOk r (WentBy bytes_of Keeps opening next.number jobs next.receipts later)
landed_so bytes_of Keeps (Ok v) opening seat next ends later flying left jobs n long none on c = carries_landed bytes_of Keeps opening next later left n jobs long none (on jobs c)
landed_so bytes_of Keeps (Err e) opening seat next ends later flying left jobs n long none on c = tt

pub under_condition : {T E : Type 0} (A B : Type 0) (r : Result T E) → (A → OnOk r B) → OnOk r (A → B)
under_condition A B (Ok v) f = f
under_condition A B (Err e) f = tt

-- One more submitter hands in its seat and its ends

pub same_push : {X Y Z : Type 0} (f : X → Z) (g : Y → Z) (xs : List X) (ys : List Y) (x : X) (y : Y) → map f xs ≡ map g ys → f x ≡ g y → map f (xs ++ x ∷ []) ≡ map g (ys ++ y ∷ [])
same_push f g xs ys x y are same =
    map-append f xs (x ∷ []) ∙ (ap (λ zs. zs ++ f x ∷ []) are ∙ (ap (λ z. map g ys ++ z ∷ []) same ∙ sym (map-append g ys (y ∷ []))))

pub handed_more : {D K : Type 0} (bytes_of : BytesOf D) (Keeps : KeepsOf D K) {X Y : Type 0} (opening : State) (receipts_of : X → List Receipt) (items : Y → List (EndOf K)) (lists before : List (List (JobOf D))) (seats : List X) (ends : List Y) (seat : X) (end : Y) (last : List (JobOf D)) (number : ℕ)
    → lists ≡ before ++ last ∷ [] → AllWentBy bytes_of Keeps opening before (map receipts_of seats) (map items ends) → WentBy bytes_of Keeps opening number last (receipts_of seat) (items end)
    → AllWentBy bytes_of Keeps opening lists (map receipts_of (seats ++ seat ∷ [])) (map items (ends ++ end ∷ []))
handed_more bytes_of Keeps opening receipts_of items lists before seats ends seat end last number are all went =
    rw (are, map-append receipts_of seats (seat ∷ []), map-append items ends (end ∷ []))
    (all_went_more bytes_of Keeps opening number before (map receipts_of seats) (map items ends) last (receipts_of seat) (items end) all went)

pub ok_is : {T E : Type 0} (r : Result T E) (x : T) (P : T → Type 0) → r ≡ Ok x → IfOk r P → P x
ok_is r x P is holds = subst (λ s. IfOk s P) is holds

pub no_items : {A : Type 0} (xs : List A) (n : ℕ) → n ≡ length xs → xs ≡ [] → n ≡ 0
no_items xs n long none = long ∙ ap length none

-- what an answer says, by one or by two of the things that it ensures
pub ok_by : {T E : Type 0} (r : Result T E) (P Q : T → Type 0) → IfOk r P → ((x : T) → P x → Q x) → IfOk r Q
ok_by (Ok x) P Q p so = so x p
ok_by (Err e) P Q p so = tt

pub ok_by_both : {T E : Type 0} (r : Result T E) (O P Q : T → Type 0) → IfOk r O → IfOk r P → ((x : T) → O x → P x → Q x) → IfOk r Q
ok_by_both (Ok x) O P Q o p so = so x o p
ok_by_both (Err e) O P Q o p so = tt
