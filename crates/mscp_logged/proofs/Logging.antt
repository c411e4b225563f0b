-- What is known of a port's log, over a whole list of calls.
use Rattle.mscp_logged.proofs.Common.{AllByRecursion, Answered, AsksAlways, Bool, Call, Deals, History, HostIsRight, IsAnswering, IsEnding, IsTaking, List, None, Ok, Option, Outgoing, Picking, Port, PortsEndWhatTheyTook, PortsTellInOrder, ReadsBytes, Said, Some, WasRead, [], aborts_behind, accepted_by, ap, append-nil, arith, awaited, begins, cond, end_kind, false, filter, has_number, held, inl, inr, is_foreign, logged, map, message_of, messages_by, not, num, refl, said_in, slice_index, subst, sym, taken_by, true, ℕ, ◌%◌, ◌++◌, ◌<◌, ◌^◌, ◌∙◌, ◌∷◌, ◌≡◌}
use Rattle.mscp_logged.proofs.Begun.{Begun, nothing_held, same_held}
use Rattle.mscp_port.specs.declared.port.OutgoingKind.TheVariants as kinds
use Rattle.mscp_logged.proofs.Own.{IsOwn, answers_so, own_named}
use Rattle.mscp_logged.proofs.Passes.{keeps, overtakes}
use Rattle.mscp_logged.proofs.Walking.{IsCall, IsForgotten, awaited_is, host_before, is_new_now, log_is, none_by, walk}
use Rattle.mscp_logged.proofs.Stated.{Stated, answers, as_it_is, begins_end, begins_other, left, nothing_stated, takes}
use Rattle.mscp_logged.proofs.Turns.{IsApartOr}
use Rattle.mscp_logged.proofs.Wired.{nothing_wired}

-- a message that the controller takes is for the disks
pub taken_disk : {K : Type 0} (call : Call) (old : Port K) (t : List ℕ) → taken_by call old ≡ t ∷ []
    → is_foreign old.task ≡ false
taken_disk call old t e = grind arith

pub small_of : (call : Call) (calls : List Call) (t : List ℕ) (done : Unit) → ReadsBytes (call ∷ calls)
    → call ≡ WasRead t (Ok done) → (i : ℕ) → slice_index t i < 2 ^ 8
small_of call calls t done reads is = (subst (λ x. ReadsBytes (x ∷ calls)) is reads).0

module _ {K : Type 0} (Tie : List ℕ → List ℕ → Type 0) (G O : Type 0) {picks : Picking K} (run : Begun picks)
    (ends : PortsEndWhatTheyTook picks run.picker) (tell : PortsTellInOrder picks)
    (Fine : List Call → Type 0) (fine_before : (call : Call) (calls : List Call) → Fine (call ∷ calls) → Fine calls)
    (tie_end : (p : Port K) (call : Call) (calls : List Call) → ReadsBytes (call ∷ calls) → Fine (call ∷ calls)
    → (a : Answered picks run.start (call ∷ calls) p)
    → (q : IsEnding (awaited picks run.start a.0 calls a.1) call a.0 p)
    → Tie q.out.bytes.items q.message)
    (late_end : (p : Port K) (call : Call) (calls : List Call) → ReadsBytes (call ∷ calls) → Fine (call ∷ calls)
    → (a : Answered picks run.start (call ∷ calls) p)
    → (q : IsEnding (awaited picks run.start a.0 calls a.1) call a.0 p)
    → G → num q.out.bytes.items 10 2 % 32 ≡ 2
    → (k : ℕ) × (aborts_behind (num q.out.bytes.items 0 4) k (awaited picks run.start a.0 calls a.1) ≡ true))
    (late_own : (old : Port K) (text : List ℕ) (o : Outgoing) → IsOwn old text o → o.kind ≡ kinds.End → G
    → num o.bytes.items 10 2 % 32 ≡ 2 → ⊥)
    (turn_end : (p : Port K) (call : Call) (calls : List Call) → ReadsBytes (call ∷ calls) → Fine (call ∷ calls)
    → (a : Answered picks run.start (call ∷ calls) p)
    → (q : IsEnding (awaited picks run.start a.0 calls a.1) call a.0 p)
    → O → IsApartOr q.out.bytes.items
    (overtakes (num q.out.bytes.items 0 4) (awaited picks run.start a.0 calls a.1) ≡ false))
    (turn_own : (p : Port K) (call : Call) (calls : List Call) → ReadsBytes (call ∷ calls) → Fine (call ∷ calls)
    → (a : Answered picks run.start (call ∷ calls) p) → (q : IsAnswering call a.0 p) → IsOwn a.0 q.message q.out
    → q.out.kind ≡ kinds.End → O → IsApartOr q.out.bytes.items
    (AllByRecursion (λ u. keeps q.message u ≡ false) (awaited picks run.start a.0 calls a.1)))
    (tie_own : (old : Port K) (text : List ℕ) (o : Outgoing) → ((i : ℕ) → slice_index text i < 2 ^ 8)
    → IsOwn old text o → o.kind ≡ kinds.End → Tie o.bytes.items text) (limit : Option ℕ) where
  open run use {c, valid, before, hardware, credits, controller, start, was, made, quiet}

  abbrev pub State : (p : Port K) (calls : List Call) → Answered picks start calls p → Type 0
  State p calls a = Stated Tie G O (logged picks start p calls a) (awaited picks start p calls a) (held p)

  forgotten : (p : Port K) (calls : List Call) → AsksAlways calls → (a : Answered picks start calls p)
      → IsForgotten picks start p calls a → State p calls a
  forgotten p calls asks a none =
      grind (arith, as_it_is, nothing_held, nothing_stated, nothing_wired, none.said, none.logged, none.awaited)

  module _ (p : Port K) (call : Call) (calls : List Call) (fine : Fine (call ∷ calls))
      (a : Answered picks start (call ∷ calls) p) (is : IsCall picks start p call calls a) (s : State a.0 calls a.1)
      (host : HostIsRight limit (logged picks start p (call ∷ calls) a)) where
    abbrev h : History
    h = logged picks start a.0 calls a.1

    abbrev aw : List (List ℕ)
    aw = awaited picks start a.0 calls a.1

    -- nothing begins to go out
    calm : (ms : History) (xs : List (List ℕ)) → messages_by call a.0 ≡ ms → begins a.0.outgoing p.outgoing ≡ []
        → awaited picks start p (call ∷ calls) a ≡ xs → Stated Tie G O (h ++ ms) xs (held a.0)
        → State p (call ∷ calls) a
    calm ms xs e none f x = as_it_is Tie G O _ xs (logged picks start p (call ∷ calls) a)
        (awaited picks start p (call ∷ calls) a) (held p) (held p) (log_is is ms e) f refl
        (left Tie G O (h ++ ms) xs a.0.outgoing p.outgoing x none
        (same_held run tell p call calls is.asks a is.never is.lives))

    -- or something does
    begun : (ms : History) (xs : List (List ℕ)) (o : Outgoing) → messages_by call a.0 ≡ ms → a.0.outgoing ≡ None
        → p.outgoing ≡ Some o → awaited picks start p (call ∷ calls) a ≡ xs
        → Stated Tie G O (h ++ ms) xs (said_in o ∷ []) → State p (call ∷ calls) a
    begun ms xs o e nothing some f x = grind (arith, as_it_is, log_is is, append-nil)

    with_none : (xs : List (List ℕ)) (us : List Said) → Stated Tie G O h xs us → Stated Tie G O (h ++ []) xs us
    with_none xs us x = as_it_is Tie G O h xs (h ++ []) xs us us (append-nil h) refl refl x

    none_out : a.0.outgoing ≡ None → Stated Tie G O h aw []
    none_out nothing = grind arith

    ending : IsEnding aw call a.0 p → State p (call ∷ calls) a
    ending q = begun [] (filter (λ t. not (has_number (num q.out.bytes.items 0 4) t)) aw) q.out (none_by is q.accepted)
        q.nothing q.begun (awaited_is is (q.out.bytes.items ∷ []) [] q.ended q.taken ∙ append-nil _)
        (with_none _ (said_in q.out ∷ []) (begins_end Tie G O h aw (said_in q.out) q.message (none_out q.nothing) q.only
        (tie_end p call calls is.reads fine a q) q.kind (late_end p call calls is.reads fine a q)
        (turn_end p call calls is.reads fine a q)))

    taking : IsTaking call a.0 p → State p (call ∷ calls) a
    taking q =
        let disk = taken_disk call a.0 q.message q.taken in
        let shown : messages_by call a.0 ≡ message_of q.message ∷ [] =
        ap (λ b. cond b [] (map message_of (accepted_by call a.0))) disk ∙ ap (map message_of) q.accepted in
        calm (message_of q.message ∷ []) (aw ++ q.message ∷ []) shown q.begun
        (awaited_is is [] (q.message ∷ []) q.ended q.taken)
        (takes Tie G O h aw (held a.0) q.message s (is_new_now is limit host q.message shown))

    answering : (q : IsAnswering call a.0 p) → State p (call ∷ calls) a
    answering q = by own.foreign own.task own.kind
      where
        own : IsOwn a.0 q.message q.out
        own = answers_so picks call a.0 p a.2 q

        small : (i : ℕ) → slice_index q.message i < 2 ^ 8
        small = small_of call calls q.message q.read.0 is.reads q.read.1

        still : awaited picks start p (call ∷ calls) a ≡ aw
        still = awaited_is is [] [] q.ended q.taken ∙ append-nil aw

        by : (foreign : Bool) → is_foreign a.0.task ≡ foreign → q.out.kind ≡ end_kind foreign → State p (call ∷ calls) a
        by true task kind = begun [] aw q.out (ap (λ b. cond b [] (map message_of (accepted_by call a.0))) task)
            q.nothing q.begun still (with_none aw (said_in q.out ∷ [])
            (begins_other Tie G O h aw (said_in q.out) (none_out q.nothing) (λ e. search (arith, sym kind ∙ e))))
        by false task kind =
            let shown : messages_by call a.0 ≡ message_of q.message ∷ [] =
            ap (λ b. cond b [] (map message_of (accepted_by call a.0))) task ∙ ap (map message_of) q.accepted in
            begun (message_of q.message ∷ []) aw q.out shown q.nothing q.begun still
            (answers Tie G O h aw (said_in q.out) q.message (none_out q.nothing)
            (is_new_now is limit host q.message shown) (own_named a.0 q.message q.out own small)
            (tie_own a.0 q.message q.out small own kind) kind (late_own a.0 q.message q.out own kind)
            (turn_own p call calls is.reads fine a q own kind))

    pub deals_so : Deals aw call a.0 p → State p (call ∷ calls) a
    deals_so (inl q) = calm [] aw (none_by is q.accepted) q.begun (awaited_is is [] [] q.ended q.taken ∙ append-nil aw)
        (with_none aw (held a.0) s)
    deals_so (inr (inl q)) = begun [] aw q.out (none_by is q.accepted) q.nothing q.begun
        (awaited_is is [] [] q.ended q.taken ∙ append-nil aw) (with_none aw (said_in q.out ∷ [])
        (begins_other Tie G O h aw (said_in q.out) (none_out q.nothing) (λ e. search (arith, sym q.kind ∙ e))))
    deals_so (inr (inr (inl q))) = ending q
    deals_so (inr (inr (inr (inl q)))) = taking q
    deals_so (inr (inr (inr (inr q)))) = answering q

  pub stated : (p : Port K) (calls : List Call) → AsksAlways calls → ReadsBytes calls → Fine calls
      → (a : Answered picks start calls p)
      → HostIsRight limit (logged picks start p calls a) → State p calls a
  stated p calls asks reads fine a host = walk run ends
      (λ p calls a. Fine calls → HostIsRight limit (logged picks start p calls a) → State p calls a)
      (λ p calls asks a none fine host. forgotten p calls asks a none)
      (λ p call calls a is so_far fine host. deals_so p call calls fine a is
      (so_far (fine_before call calls fine) (host_before is limit host)) host is.deals) p calls asks reads a fine host
