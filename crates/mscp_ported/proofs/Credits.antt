-- A port has a credit for each message of a host that has no more commands outstanding than it may.
use Rattle.mscp_ported.proofs.Common.{◌≡◌, ◌≢◌, ◌∙◌, ◌+◌, ◌-◌, ◌<◌, ◌≤◌, ℕ, Bool, true, false, List, [], ◌∷◌, length, Option, None, Some, inl, inr, refl, ap, subst, arith, Result, Ok, Err, false≢true, length-append, length-map, none-some, eq_false, First, SendFault, Sent, refusal, Holdings, answer_to_message, balance_of, outstanding_of, waiting_on, numbers, numbers_ended, of, credits_of, Hardware, Port, IsMadeOf, Ticks, Answered, Becomes, Call, HasCredit, WriteIp, ReadIp, WriteSa, Next, PutAside, WasRead, Went, LookAgain, Tick, Protect, VolumeCame, VolumeWent, Picking}
use Rattle.mscp_controller.specs.declared.entry.SendFault.TheVariants as faults

-- ---- the settings stay

ticked : {K : Type 0} (old new : Port K) → Ticks old new → new.controller.settings ≡ old.controller.settings
ticked old new r = elim r.either [
  | inl e ↦ ap (λ p. p.controller.settings) e
  | inr dead ↦ ap (λ h. h.settings) dead.controller
]

pub settings_stay : {K : Type 0} (picks : Picking K) (call : Call) (old new : Port K) → Becomes picks call old new
    → new.controller.settings ≡ old.controller.settings
settings_stay picks WriteIp old new r = ap (λ h. h.settings) r.controller
settings_stay picks ReadIp old new r = r.settings
settings_stay picks (WriteSa word) old new r = r.settings
settings_stay picks (Next blocks action bytes) old new r = r.0.settings
settings_stay picks PutAside old new r = ap (λ p. p.controller.settings) r
settings_stay picks (WasRead bytes result) old new r = r.settings
settings_stay picks (Went outcome result) old new r = r.settings
settings_stay picks LookAgain old new r = ap (λ p. p.controller.settings) r
settings_stay picks Tick old new r = ticked old new r
settings_stay picks (VolumeCame m unit (Ok done)) old new r = ap (λ p. p.controller.settings) (r.came refl)
settings_stay picks (VolumeCame m unit (Err fault)) old new r = ap (λ p. p.controller.settings) r.refused
settings_stay picks (VolumeWent unit result) old new r = ap (λ p. p.controller.settings) r.frame
settings_stay picks (Protect protected unit result) old new r = ap (λ p. p.controller.settings) r.frame

pub settings_still : {K : Type 0} (picks : Picking K) (start p : Port K) (calls : List Call)
    → Answered picks start calls p
    → p.controller.settings ≡ start.controller.settings
settings_still picks start p [] e = ap (λ q. q.controller.settings) e
settings_still picks start p (call ∷ earlier) a =
    settings_stay picks call a.0 p a.2 ∙ settings_still picks start a.0 earlier a.1

-- ---- a message that is refused for want of a credit finds one at most

is_of_credit : SendFault → Bool
is_of_credit faults.NoCredit = true
is_of_credit faults.LastCredit = true
is_of_credit fault = false

refused_otherwise : (balance : ℕ) (os b : List ℕ) (f : SendFault) → 2 ≤ balance → refusal balance os b ≡ Some f
    → is_of_credit f ≡ false
unfolding is_of_credit
refused_otherwise balance os b f two e = search (arith, is_of_credit, eq_false, false≢true, none-some)

fault_in : Result Sent SendFault → Option SendFault
fault_in (Ok sent) = None
fault_in (Err fault) = Some fault

answered_otherwise : {K : Type 0} (h : Holdings K) (b : List ℕ) (f : SendFault) → 2 ≤ balance_of First h
    → is_of_credit f ≡ true → answer_to_message First h b ≢ Err f
unfolding fault_in
answered_otherwise h b f two credit e = search (arith, false≢true, refused_otherwise, fault_in)

-- ---- the law

outstanding_count : {K : Type 0} (h : Holdings K) → length (outstanding_of First h)
    ≡ length (waiting_on First h.waiting) + length (of First h.untaken)
outstanding_count h =
    length-append (numbers (waiting_on First h.waiting)) (numbers_ended (of First h.untaken))
    ∙ ap (λ m. m + length (numbers_ended (of First h.untaken)))
    (length-map (waiting_on First h.waiting) (λ r. r.command.reference))
    ∙ ap (λ n. length (waiting_on First h.waiting) + n) (length-map (of First h.untaken) (λ e. e.reference))

two_left : (all before now held credits : ℕ) → now ≡ all → credits < all - before → held < credits → 2 ≤ now - held
two_left all before now held credits same spare few = omega (arith, same, spare, few)

pub has_credit : {K : Type 0} (picks : Picking K) (hardware : Hardware) (credits : ℕ) (controller : Holdings K)
    (start p : Port K)
    (calls : List Call) (bytes : List ℕ) → IsMadeOf hardware credits controller start
    → credits < balance_of First controller → Answered picks start calls p
    → length (outstanding_of First p.controller) < credits → HasCredit p.controller bytes
unfolding is_of_credit
has_credit picks hardware credits controller start p calls bytes made spare a few =
    let settings : p.controller.settings ≡ controller.settings =
    settings_still picks start p calls a ∙ ap (λ h. h.settings) made.over in
    let held : ℕ = length (waiting_on First p.controller.waiting) + length (of First p.controller.untaken) in
    let left : held < credits = subst (λ n. n < credits) (outstanding_count p.controller) few in
    let two : 2 ≤ balance_of First p.controller =
    two_left (credits_of controller.settings First)
    (length (waiting_on First controller.waiting) + length (of First controller.untaken))
    (credits_of p.controller.settings First) held credits (ap (λ c. credits_of c First) settings) spare left in
    record {
      some = answered_otherwise p.controller bytes faults.NoCredit two refl;
      last = answered_otherwise p.controller bytes faults.LastCredit two refl;
    }
