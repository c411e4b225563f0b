-- What a host is told of credits over a whole history.
use Rattle.mscp_ported.proofs.Common.{◌≡◌, ◌⊎◌, ◌∙◌, ◌+◌, ◌∷◌, [], ℕ, Bool, true, false, List, inl, inr, refl, ap, sym, arith, Result, Ok, Err, min-le_left, false≢true, Holdings, Outcome, Unasked, Hardware, Port, Descriptor, Task, WritesOut, Goes, HoldsPacket, IsMadeOf, IsForgotten, IsWritten, Told, disk_credits, Answered, Becomes, Call, WriteIp, ReadIp, WriteSa, Next, PutAside, WasRead, Went, LookAgain, Tick, Protect, VolumeCame, VolumeWent, Picking, Choice}
use Rattle.mscp_ported.specs.Departures.{ends_in}
use Rattle.mscp_port.specs.declared.action.Outcome.TheVariants as outcomes
use Rattle.mscp_port.specs.declared.stage.Stage.TheVariants as stages
use Rattle.mscp_port.specs.declared.task.Task.TheVariants as tasks

-- ---- a call

abbrev KeepsCredits : {K : Type 0} → Port K → Port K → Type 0
KeepsCredits old new = (new.untold ≡ old.untold) × (new.more ≡ old.more)

-- all is forgotten, or a packet is written, or the credits stay
abbrev Counts : {K : Type 0} → Call → Port K → Port K → Type 0
Counts call old new = IsForgotten old new
    ⊎ (IsWritten call old × (slot : Descriptor) × WritesOut outcomes.Done slot old new)
    ⊎ KeepsCredits old new

-- the packet that is in hand
packet_in : (t : Task) → HoldsPacket t → (slot : Descriptor) × (t ≡ tasks.Packet slot)
packet_in (tasks.Packet slot) holds = (slot, refl)
packet_in t holds = absurd holds

is_done : Outcome → Bool
is_done outcomes.Done = true
is_done outcome = false

-- an outcome but Done of a packet is a fatal error
went_with : {K : Type 0} (picks : List Choice → ℕ → Type 0) (outcome : Outcome) (done : Unit) (old new : Port K)
    → Goes picks outcome old (Ok done) new
    → HoldsPacket old.task → Counts (Went outcome (Ok done)) old new
unfolding is_done
went_with picks outcomes.Done done old new r holds =
    let held = packet_in old.task holds in inr (inl (holds, held.0, (r.acts refl).packet held.0 held.1))
went_with picks outcome done old new r holds =
    let held = packet_in old.task holds in
    inl (stages.Dead 2, ((r.acts refl).packet held.0 held.1).missing (λ e. false≢true (ap is_done e)))

went : {K : Type 0} (picks : List Choice → ℕ
    → Type 0) (outcome : Outcome) (result : Result Unit Unasked) (old new : Port K) → Goes picks outcome old result new
    → Counts (Went outcome result) old new
went picks outcome (Err unasked) old new r =
    inr (inr (ap (λ p. p.untold) r.unasked, ap (λ p. p.more) r.unasked))
went picks outcome (Ok done) old new r = elim r.credits [
  | inl holds ↦ went_with _ outcome done old new r holds
  | inr more ↦ elim more [ inl same ↦ inr (inr same) | inr dead ↦ inl (stages.Dead dead.0, dead.1) ]
]

counts : {K : Type 0} (picks : Picking K) (call : Call) (old new : Port K) → Becomes picks call old new
    → Counts call old new
counts picks WriteIp old new r = inl (stages.First, r)
counts picks ReadIp old new r = elim r.frame
    [ inl e ↦ inr (inr (ap (λ p. p.untold) e, ap (λ p. p.more) e)) | inr dead ↦ inl (stages.Dead dead.0, dead.1) ]
counts picks (WriteSa word) old new r = elim r.frame
    [ inl e ↦ inr (inr (ap (λ p. p.untold) e, ap (λ p. p.more) e)) | inr dead ↦ inl (stages.Dead dead.0, dead.1) ]
counts picks (Next blocks action bytes) old new r = inr (inr (ap (λ p. p.untold) r.0.frame, ap (λ p. p.more) r.0.frame))
counts picks PutAside old new r = inr (inr (ap (λ p. p.untold) r, ap (λ p. p.more) r))
counts picks (WasRead bytes result) old new r = elim r.frame
    [ inl e ↦ inr (inr (ap (λ p. p.untold) e, ap (λ p. p.more) e)) | inr dead ↦ inl (stages.Dead dead.0, dead.1) ]
counts picks (Went outcome result) old new r = went _ outcome result old new r
counts picks LookAgain old new r = inr (inr (ap (λ p. p.untold) r, ap (λ p. p.more) r))
counts picks Tick old new r = elim r.either
    [ inl e ↦ inr (inr (ap (λ p. p.untold) e, ap (λ p. p.more) e)) | inr dead ↦ inl (stages.Dead 9, dead) ]
counts picks (VolumeCame m unit (Ok done)) old new r =
    inr (inr (ap (λ p. p.untold) (r.came refl), ap (λ p. p.more) (r.came refl)))
counts picks (VolumeCame m unit (Err fault)) old new r =
    inr (inr (ap (λ p. p.untold) r.refused, ap (λ p. p.more) r.refused))
counts picks (VolumeWent unit result) old new r = inr (inr (ap (λ p. p.untold) r.frame, ap (λ p. p.more) r.frame))
counts picks (Protect protected unit result) old new r =
    inr (inr (ap (λ p. p.untold) r.frame, ap (λ p. p.more) r.frame))

-- ---- the law

-- what is told of a packet that was written
written : {K : Type 0} (picks : Picking K) (call : Call) (old new : Port K) → IsWritten call old
    → Becomes picks call old new
    → (slot : Descriptor) × WritesOut outcomes.Done slot old new
written picks (Went outcomes.Done (Ok done)) old new holds r =
    let held = packet_in old.task holds in (held.0, (r.acts refl).packet held.0 held.1)
written picks call old new holds r = absurd holds

more_after : {K : Type 0} (call : Call) (old new : Port K) → Counts call old new → new.more ≡ old.more
more_after call old new counted = elim counted [
  | inl forgotten ↦ forgotten.1.more
  | inr more ↦ elim more [ inl w ↦ ap (λ p. p.more) (w.2.done refl) | inr keeps ↦ keeps.1 ]
]

pub all_but_one : {K : Type 0} (picks : Picking K) (hardware : Hardware) (credits : ℕ) (controller : Holdings K)
    (start p : Port K)
    (calls : List Call) → IsMadeOf hardware credits controller start → Answered picks start calls p
    → p.more + 1 ≡ credits
all_but_one picks hardware credits controller start p [] made e = ap (λ q. q.more + 1) e ∙ made.credit
all_but_one picks hardware credits controller start p (call ∷ calls) made a =
    ap (λ m. m + 1) (more_after call a.0 p (counts picks call a.0 p a.2))
    ∙ all_but_one picks hardware credits controller start a.0 calls made a.1

after_written : {K : Type 0} (old new : Port K) (slot : Descriptor) (told ended : ℕ)
    → WritesOut outcomes.Done slot old new
    → told + old.untold ≡ old.more + ended
    → (told + disk_credits old.untold old.outgoing) + new.untold ≡ new.more + (ended + ends_in old.outgoing)
after_written old new slot told ended w e = search (arith, min-le_left)

pub tells_its_credits : {K : Type 0} (picks : Picking K) (hardware : Hardware) (credits : ℕ)
    (controller : Holdings K) (start p : Port K)
    (calls : List Call) (told ends : ℕ) → IsMadeOf hardware credits controller start
    → (a : Answered picks start calls p)
    → Told picks start p calls a told ends → told + p.untold ≡ p.more + ends
tells_its_credits picks hardware credits controller start p [] told ends made a t =
    let untold : p.untold ≡ start.untold = ap (λ q. q.untold) a in
    let more : p.more ≡ start.more = ap (λ q. q.more) a in
    let all : start.untold ≡ start.more = made.untold in
    omega (arith, untold, more, all, t.0, t.1)
tells_its_credits picks hardware credits controller start p (call ∷ calls) told ends made a t = elim t [
  | inl anew ↦
      let untold : p.untold ≡ a.0.more = anew.0.1.untold in
      let more : p.more ≡ a.0.more = anew.0.1.more in
      omega (arith, untold, more, anew.1, anew.2)
  | inr some ↦ elim some [
    | inl w ↦
        let packet = written picks call a.0 p w.0 a.2 in
        ap (λ n. n + p.untold) w.4
        ∙ after_written a.0 p packet.0 w.1 w.2 packet.1
        (tells_its_credits picks hardware credits controller start a.0 calls w.1 w.2 made a.1 w.3)
        ∙ ap (λ n. p.more + n) (sym w.5)
    | inr none ↦ elim (counts picks call a.0 p a.2) [
      | inl forgotten ↦ absurd (none.0 (inl forgotten))
      | inr more ↦ elim more [
        | inl w ↦ absurd (none.0 (inr w.0))
        | inr keeps ↦
            ap (λ n. told + n) keeps.0
            ∙ tells_its_credits picks hardware credits controller start a.0 calls told ends made a.1 none.1
            ∙ ap (λ m. m + ends) (sym keeps.1)
      ]
    ]
  ]
]

pub sums : (told untold more ends credits : ℕ) → told + untold ≡ more + ends → more + 1 ≡ credits
    → told + untold + 1 ≡ credits + ends
sums told untold more ends credits e f = omega (arith, e, f)
