-- Lists of calls and of moments: what holds before the last one, and what the last one adds.
use Rattle.mscp_heard.proofs.Common.{Asked, AsksAlways, Call, History, List, PortAccount, PortAnswered, PortAnswers, PortHistory, PortMoment, ReadsBytes, [], ap, append-nil, arith, asked_at, cond, filter-append, flat_map-append, hearings, is_hearing, length-append, map, refl, sent, sent_by, submission_at, suc, ℕ, ◌++◌, ◌∙◌, ◌∷◌, ◌≡◌}

pub asked_before : (call : Call) (calls : List Call) → AsksAlways (call ∷ calls) → AsksAlways calls
asked_before call calls asks = grind arith

pub reads_before : (call : Call) (calls : List Call) → ReadsBytes (call ∷ calls) → ReadsBytes calls
reads_before call calls reads = grind arith

pub answered_last : (old new : PortAccount) (h : PortHistory) (m : PortMoment) → PortAnswered old (h ++ m ∷ []) new
    → (mid : PortAccount) × PortAnswered old h mid × PortAnswers mid m new
answered_last old new [] m r = grind arith
answered_last old new (x ∷ h) m r = grind (arith, answered_last r.0 new h m r.2)

pub heard_last : (h : PortHistory) (m : PortMoment)
    → hearings (h ++ m ∷ []) ≡ cond (is_hearing m) (suc (hearings h)) (hearings h)
heard_last h m = grind (arith, filter-append, length-append)

pub sent_last : (h : PortHistory) (m : PortMoment) → sent (h ++ m ∷ []) ≡ sent h ++ sent_by m
sent_last h m = flat_map-append sent_by h (m ∷ []) ∙ ap (λ xs. sent h ++ xs) (append-nil (sent_by m))

pub same_numbers : (hist : History) (j : ℕ) (xs : List ℕ)
    → map (λ (x : Asked). x.reference) (map (asked_at hist) xs)
    ≡ map (λ (x : Rattle.mscp_host.specs.declared.submission.Submission.Submission). x.reference) (map
    (submission_at hist j) xs)
same_numbers hist j [] = refl
same_numbers hist j (x ∷ xs) = grind (arith, same_numbers hist j xs)
