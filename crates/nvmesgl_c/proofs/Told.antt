-- What each call over a memory tells, from what the controller's call and the answer of the touched pages say.
use Rattle.std.proofs.Common.{◌≡◌, ℕ, List, [], Option, Some, None, Ok, Err, refl, ap, ◌∙◌, subst}
use Rattle.nvmesgl_c.specs.{Answers.{touching, walked}, ControllerCalls.{FetchesBy, WalksBy, CompletesBy, Completes, code_of_end}}
use Rattle.nvmesgl_c.specs.{ControllerCodes.code_of_refusal, declared.words.answer.Answer.Answer}
use Rattle.controller_core.specs.{Completing.{complete_refusal, CompletesTo}, Contents.Contents, Fetching.Fetches, Walking.{walk_refusal, WalksTo}}
use Rattle.controller_core.specs.declared.refusal.ControllerRefusal.{ControllerRefusal}
use Rattle.controller_walk.specs.declared.walk.WalkState.{WalkState}
use Rattle.page_memory.specs.Memory.{Memory}

pub fetch_ok : (q : ℕ) (k k' : Contents) (pages cid : ℕ) (m m' : Memory) (reached touched shown : List ℕ) (told : Answer) → reached ≡ [] → Fetches k pages m reached q (Ok cid) k' m' touched →
    told ≡ touching shown → shown ≡ touched → FetchesBy q k pages m 0 (record told { cid = cid }) k' m'
fetch_ok q k k' pages cid m m' reached touched shown told fresh fetches tells shows =
    record {
      result = Ok cid;
      touched = touched;
      fetches = subst (λ (r : List ℕ). Fetches k pages m r q (Ok cid) k' m' touched) fresh fetches;
      tells = (refl, ap (λ (a : Answer). record a { cid = cid }) (tells ∙ ap touching shows));
    }

pub fetch_err : (q : ℕ) (k k' : Contents) (pages code : ℕ) (why : ControllerRefusal) (m m' : Memory) (reached touched shown : List ℕ) (told : Answer) → reached ≡ [] → Fetches k pages m reached q (Err why) k' m' touched →
    told ≡ touching shown → shown ≡ touched → code ≡ code_of_refusal why → FetchesBy q k pages m code told k' m'
fetch_err q k k' pages code why m m' reached touched shown told fresh fetches tells shows codes =
    record {
      result = Err why;
      touched = touched;
      fetches = subst (λ (r : List ℕ). Fetches k pages m r q (Err why) k' m' touched) fresh fetches;
      tells = (codes, tells ∙ ap touching shows);
    }

pub walk_ok : (q cid : ℕ) (k k' : Contents) (pages : ℕ) (state : WalkState) (m m' : Memory) (reached touched shown : List ℕ) (told : Answer) → reached ≡ [] → None ≡ walk_refusal k q cid →
    WalksTo k q cid m reached state k' m' touched → told ≡ walked state shown → shown ≡ touched → WalksBy q cid k pages m 0 told k' m'
walk_ok q cid k k' pages state m m' reached touched shown told fresh refusal walks tells shows =
    record {
      result = Ok state;
      touched = touched;
      refusal = refusal;
      walks = subst (λ (r : List ℕ). WalksTo k q cid m r state k' m' touched) fresh walks;
      tells = (refl, tells ∙ ap (walked state) shows);
    }

pub walk_err : (q cid : ℕ) (k k' : Contents) (pages code : ℕ) (why : ControllerRefusal) (m m' : Memory) (reached touched shown : List ℕ) (told : Answer) → reached ≡ [] → Some why ≡ walk_refusal k q cid →
    (k' ≡ k) × (m' ≡ m) × (touched ≡ reached) → told ≡ touching shown → shown ≡ touched → code ≡ code_of_refusal why → WalksBy q cid k pages m code told k' m'
walk_err q cid k k' pages code why m m' reached touched shown told fresh refusal kept tells shows codes =
    record {
      result = Err why;
      touched = touched;
      refusal = refusal;
      walks = (kept.0, kept.1, kept.2 ∙ fresh);
      tells = (codes, tells ∙ ap touching shows);
    }

pub complete_ok : (q cid : ℕ) (k k' : Contents) (pages : ℕ) (m m' : Memory) (reached touched shown : List ℕ) (told : Answer) → reached ≡ [] → None ≡ complete_refusal k m q cid →
    CompletesTo k q cid m reached k' m' touched → told ≡ touching shown → shown ≡ touched → CompletesBy q cid k pages m 0 told k' m'
complete_ok q cid k k' pages m m' reached touched shown told fresh refusal completes tells shows =
    record {
      touched = touched;
      completes = subst (λ (o : Option ControllerRefusal). Completes k q cid m o k' m' touched) refusal (subst (λ (r : List ℕ). CompletesTo k q cid m r k' m' touched) fresh completes);
      code_is = ap code_of_end refusal;
      answer_is = tells ∙ ap touching shows;
    }

pub complete_err : (q cid : ℕ) (k k' : Contents) (pages code : ℕ) (why : ControllerRefusal) (m m' : Memory) (reached touched shown : List ℕ) (told : Answer) → reached ≡ [] → Some why ≡ complete_refusal k m q cid →
    (k' ≡ k) × (m' ≡ m) × (touched ≡ reached) → told ≡ touching shown → shown ≡ touched → code ≡ code_of_refusal why → CompletesBy q cid k pages m code told k' m'
complete_err q cid k k' pages code why m m' reached touched shown told fresh refusal kept tells shows codes =
    record {
      touched = touched;
      completes = subst (λ (o : Option ControllerRefusal). Completes k q cid m o k' m' touched) refusal (kept.0, kept.1, kept.2 ∙ fresh);
      code_is = codes ∙ ap code_of_end refusal;
      answer_is = tells ∙ ap touching shows;
    }
