-- Ends pass on to a host in order, over a whole list of calls.
use Rattle.mscp_ported.proofs.Common.{All, AllByRecursion, Answered, AnsweredCalls, AsksAlways, Call, ControllersKeepThePromise, Deals, Err, First, Hardware, Holdings, IsMadeOf, IsValid, List, Made, Next, Ok, OutgoingKind, PassesOn, Pending, Picking, Port, ReadsBytes, Record, Settings, TakesPoll, WasRead, Went, WriteIp, [], accepted_by, ap, append-nil, arith, awaited, begins, ends_said_by, every_append, false, figure_on, filter, flat_map, fresh, inl, inr, is_dead, map, num, outstanding_of, pending_end, pending_held, pending_in, pending_said, refl, said_in, sym, taken_by, ℕ, ◌++◌, ◌<◌, ◌∙◌, ◌∷◌, ◌≡◌, ◌≢◌, ◌≤◌, ◌⊎◌}
use Rattle.mscp_ported.proofs.Kept.{is_numbered}
use Rattle.mscp_ported.proofs.Answering.{answers}
use Rattle.mscp_ported.proofs.Awaiting.{Kept}
use Rattle.mscp_ported.proofs.ByOpcode.{fitting}
use Rattle.mscp_ported.proofs.Coming.{ends_of}
use Rattle.mscp_ported.proofs.Ended.{bytes_small, deals, kept, shaped}
use Rattle.mscp_ported.proofs.Holding.{promised, some_figure}
use Rattle.mscp_ported.proofs.Itself.{own_number}
use Rattle.mscp_ported.proofs.Growing.{Grown, begun_one, grown_none, grown_passes, pending_these, silent}
use Rattle.mscp_ported.proofs.Passing.{Comes, next_passes, read_comes, went_grown}
use Rattle.mscp_ported.proofs.Staying.{IsPassive, passive_stays}

module _ {K : Type 0} (picks : Picking K) (c : Settings) (picker : K)
    (keeps : ControllersKeepThePromise (picks picker) picker) (valid : IsValid c)
    (sizes : All (λ unit. 0 < unit.size) c.units) (before : List Made)
    (hardware : Hardware) (credits : ℕ) (controller : Holdings K) (start : Port K)
    (was : AnsweredCalls (picks picker) (fresh c picker) before controller)
    (made : IsMadeOf hardware credits controller start) (quiet : outstanding_of First controller ≡ []) where
  numbers_kept : (p : Port K) (calls : List Call) → ReadsBytes calls → (a : Answered picks start calls p)
      → Kept p (awaited picks start p calls a)
  numbers_kept = kept picks c picker keeps valid before hardware credits controller start was made quiet

  waits_so : (p : Port K) (calls : List Call) → ReadsBytes calls → (a : Answered picks start calls p) → (n : ℕ)
      → (x : Record) → filter (is_numbered n) p.controller.waiting ≡ x ∷ [] → 1 ≤ figure_on p n
  waits_so p calls reads a n x sole =
      let m = promised picks c picker keeps valid before hardware credits controller start was made quiet p calls reads
      a in
      some_figure (picks picker) c m.0 p.controller m.1 n x sole

  -- by a call that reads no message and takes no end
  quiet_passes : (p : Port K) (call : Call) (calls : List Call) (a : Answered picks start (call ∷ calls) p)
      → ReadsBytes (call ∷ calls) → call ≢ WriteIp → is_dead p.stage ≡ false → ends_said_by call a.0 p ≡ []
      → ((bytes : List ℕ) (done : Unit) → call ≡ WasRead bytes (Ok done) → ⊥) → Grown call a.0 p
      → PassesOn call a.0 p
  quiet_passes p call calls a reads never lives said not_read g = grown_passes call a.0 p g
      (silent call a.0 p (awaited picks start a.0 calls a.1)
      (deals picks c picker keeps valid before hardware credits controller start was made quiet p call calls reads a
      never lives).1 said not_read) (λ bytes done e. absurd (not_read bytes done e))

  passive_grown : (p : Port K) (call : Call) (calls : List Call) (a : Answered picks start (call ∷ calls) p)
      → IsPassive call → is_dead p.stage ≡ false → Grown call a.0 p
  passive_grown p call calls a is lives = grind (arith, passive_stays, grown_none, ends_of)

  -- by a message
  read_passes : (p : Port K) (calls : List Call) (bytes : List ℕ) (done : Unit)
      (a : Answered picks start (WasRead bytes (Ok done) ∷ calls) p) → AsksAlways (WasRead bytes (Ok done) ∷ calls)
      → ReadsBytes (WasRead bytes (Ok done) ∷ calls) → is_dead p.stage ≡ false
      → PassesOn (WasRead bytes (Ok done)) a.0 p
  read_passes p calls bytes done a asks reads lives = by
      (deals picks c picker keeps valid before hardware credits controller start was made quiet p
      (WasRead bytes (Ok done)) calls reads a (λ e. search (arith, e)) lives).1
    where
      x : Comes bytes done a.0 p (awaited picks start a.0 calls a.1) (numbers_kept a.0 calls reads.1 a.1) a.2
          (waits_so a.0 calls reads.1 a.1) lives
      x = read_comes bytes done a.0 p (awaited picks start a.0 calls a.1) (numbers_kept a.0 calls reads.1 a.1) a.2
          (waits_so a.0 calls reads.1 a.1) lives

      same_bytes : (b : List ℕ) (u : Unit) → WasRead bytes (Ok done) ≡ WasRead b (Ok u) → bytes ≡ b
      same_bytes b u e = grind arith

      poll : (b : List ℕ) (u : Unit) → WasRead bytes (Ok done) ≡ WasRead b (Ok u)
          → TakesPoll (num b 12 4) (WasRead bytes (Ok done)) a.0
          → map pending_end x.0.brought ≡ record { number = num b 0 4; figure = figure_on a.0 (num b 12 4) } ∷ []
      poll b u e t = grind (arith, x, same_bytes)

      none_begun : begins a.0.outgoing p.outgoing ≡ [] → PassesOn (WasRead bytes (Ok done)) a.0 p
      none_begun none = grown_passes (WasRead bytes (Ok done)) a.0 p x.0
          (ap (λ os. flat_map pending_in (map said_in os)) none) poll

      by : Deals (awaited picks start a.0 calls a.1) (WasRead bytes (Ok done)) a.0 p
          → PassesOn (WasRead bytes (Ok done)) a.0 p
      by (inl q) = none_begun q.begun
      by (inr (inl q)) = grown_passes (WasRead bytes (Ok done)) a.0 p x.0
          (ap (λ os. flat_map pending_in (map said_in os)) (begun_one a.0.outgoing p.outgoing q.out q.nothing q.begun)
          ∙ ap (λ kind. pending_said kind q.out.bytes.items ++ []) q.kind) poll
      by (inr (inr (inl q))) = absurd (search (arith, q.ended))
      by (inr (inr (inr (inl q)))) = none_begun q.begun
      by (inr (inr (inr (inr q)))) =
          let r = answers picks hardware credits controller start made p calls bytes done q.out asks a q.nothing q.begun
          in
          let one = begun_one a.0.outgoing p.outgoing q.out q.nothing q.begun in
          let none : taken_by (WasRead bytes (Ok done)) a.0 ≡ [] = q.taken in
          record {
            more = pending_said q.out.kind q.out.bytes.items ++ map pending_end x.0.brought;
            behind = ap (λ os. flat_map pending_in (map said_in os) ++ pending_held p) one
                ∙ ap (λ xs. (pending_said q.out.kind q.out.bytes.items ++ []) ++ map pending_end xs)
                (x.0.ends ∙ ap (λ es. es ++ x.0.brought) r.4)
                ∙ ap (λ xs. xs ++ map pending_end x.0.brought) (append-nil (pending_said q.out.kind q.out.bytes.items))
                ∙ sym (ap (λ es. map pending_end es ++ (pending_said q.out.kind q.out.bytes.items
                ++ map pending_end x.0.brought)) r.4);
            of_these = every_append (λ (e : Pending). ((text : List ℕ)
                × (accepted_by (WasRead bytes (Ok done)) a.0 ≡ text ∷ []) × (num text 0 4 ≡ e.number))
                ⊎ (1 ≤ figure_on a.0 e.number)) (pending_said q.out.kind q.out.bytes.items)
                (map pending_end x.0.brought)
                (own_these q.out.kind q.out.bytes.items (q.accepted
                ∙ ap (λ b. b ∷ []) (sym (same_bytes q.message q.read.0 q.read.1)))
                (ap (λ b. num b 0 4) r.3.own.2 ∙ own_number bytes r.3.own.0 (bytes_small bytes reads.0)))
                (pending_these (WasRead bytes (Ok done)) a.0 x.0.brought x.0.these);
            poll = λ b u e t. absurd (search (arith, sym none ∙ t.0));
          }
        where
          own_these : (kind : OutgoingKind) (text : List ℕ) → accepted_by (WasRead bytes (Ok done)) a.0 ≡ bytes ∷ []
              → num text 0 4 ≡ num bytes 0 4
              → AllByRecursion (λ (e : Pending). ((text : List ℕ)
              × (accepted_by (WasRead bytes (Ok done)) a.0 ≡ text ∷ []) × (num text 0 4 ≡ e.number))
              ⊎ (1 ≤ figure_on a.0 e.number)) (pending_said kind text)
          own_these kind text one named = grind arith

  pub passes_on : (p : Port K) (call : Call) (calls : List Call) (a : Answered picks start (call ∷ calls) p)
      → AsksAlways (call ∷ calls) → ReadsBytes (call ∷ calls) → call ≢ WriteIp → is_dead p.stage ≡ false
      → PassesOn call a.0 p
  passes_on p WriteIp calls a asks reads never lives = absurd (never refl)
  passes_on p (Next blocks action bytes) calls a asks reads never lives =
      next_passes blocks action bytes a.0 p (awaited picks start a.0 calls a.1) (numbers_kept a.0 calls reads a.1)
      (fitting picks c picker keeps valid sizes before hardware credits controller start was made quiet
      (λ verdict r. Unit {0}) (λ calls. Unit {0}) (λ call calls fine. tt)
      (λ p outcome done calls fine a verdict how name was r found. tt)
      a.0 calls reads tt a.1) (picks a.0.controller.picker) a.2.0
      (shaped picks c picker keeps valid before hardware credits controller start was made quiet a.0 calls a.1)
  passes_on p (WasRead bytes (Ok done)) calls a asks reads never lives = read_passes p calls bytes done a asks reads
      lives
  passes_on p (WasRead bytes (Err unasked)) calls a asks reads never lives =
      quiet_passes p (WasRead bytes (Err unasked)) calls a reads never lives refl (λ b u e. search (arith, e))
      (passive_grown p (WasRead bytes (Err unasked)) calls a tt lives)
  passes_on p (Went outcome (Ok done)) calls a asks reads never lives =
      quiet_passes p (Went outcome (Ok done)) calls a reads never lives refl (λ b u e. search (arith, e))
      (went_grown (picks a.0.controller.picker) outcome done a.0 p (awaited picks start a.0 calls a.1)
      (numbers_kept a.0 calls reads a.1) a.2 (waits_so a.0 calls reads a.1) lives)
  passes_on p (Went outcome (Err unasked)) calls a asks reads never lives =
      quiet_passes p (Went outcome (Err unasked)) calls a reads never lives refl (λ b u e. search (arith, e))
      (passive_grown p (Went outcome (Err unasked)) calls a tt lives)
  passes_on p call calls a asks reads never lives =
      quiet_passes p call calls a reads never lives refl (λ b u e. search (arith, e))
      (passive_grown p call calls a tt lives)
