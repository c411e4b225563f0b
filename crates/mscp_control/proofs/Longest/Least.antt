-- The run that is written out is legal, and its last command waits as long as the bound.
use Rattle.mscp_control.proofs.Common.{◌≡◌, ◌≢◌, ℕ, suc, ◌+◌, ◌-◌, ◌*◌, ◌<◌, ◌≤◌, ◌^◌, true, false, not, ◌&&◌, List, [], ◌∷◌, ◌++◌, take, length, refl, ap, sym, ◌∙◌, subst, arith, nat_le, nat_lt, if◌then◌else◌, Option, Some, None, is_some, and_parts, false≢true, leb-true, le-ltb, true≢false, length_push, take_at, All-contains, All-from_recursion, Command, Shape, First, Name, name_on, is_same, Settings, IsValid, bound, room, unit_found, Trace, ends_in, is_waiting, steps_after, waiting, IsLegal, WaitsTheBound, can_wait_the_bound, has_longest, come_on, connection_at, long_read, opened, pass_on, read_command, read_end, rest_on, runs_on, stepping, steps_on, worst_of, command_before, is_waiting_before, steps_more, waits_in, waiting_waits, found_number}
use Rattle.mscp_drive.specs.UnitList as list
use Rattle.mscp_control.proofs.Longest.Counted.{counted}
use Rattle.mscp_control.proofs.Longest.Moments.{IsUnit, message_sent, nothing}
use Rattle.mscp_control.proofs.Longest.Reads.{long_is, long_sent, longs, longs_idle, record_of}
use Rattle.mscp_control.proofs.Longest.Runs.{Stands, come_stands, oldest_can, pass_stands, rest_stands, runs_part, runs_whole, stands_as, stands_stepped}
use Rattle.mscp_control.proofs.Longest.Sees.{Sees, differ, sees_first, sees_part, sees_pass, sees_rest, sees_run}

-- all have come, and the first has run
abbrev freed : Settings → Shape → Trace
freed c s = runs_on s (long_read c 0) 0 (come_on c s (opened s (room c)) (room c))

-- and others have passed, and all but the last have run
abbrev alone : Settings → Shape → Trace
alone c s = rest_on c s (pass_on c s (freed c s) c.budget) (room c - 2)

-- ---- what is held

freed_stands : (c : Settings) (s : Shape) → IsUnit c s → 2 ≤ room c → c.longest ≤ s.size
    → Stands c s (freed c s) (longs c s 0 1 (room c - 1)) nothing (c.longest - 1)
freed_stands c s w many fits =
    let n = room c - 1 in
    let all = come_stands c s w fits (room c) (omega arith) in
    let e : room c ≡ suc n = omega (arith, many) in
    let a : 0 + 1 ≡ 1 = omega arith in
    let some = w.valid.some_blocks in
    let t = come_on c s (opened s (room c)) (room c) in
    let first = stands_as c s t t (longs c s 0 0 (room c)) (record_of s (long_read c 0) 0 0 ∷ longs c s 0 1 n) nothing
    nothing 0 0 refl (ap (longs c s 0 0) e ∙ ap (λ b. record_of s (long_read c 0) 0 0 ∷ longs c s 0 b n) a) refl refl
    all in
    let is = long_is c s 0 w fits (omega (arith, many)) in
    runs_whole c s t (long_read c 0) 0 0 (c.longest - 1) (longs c s 0 1 n) w is
    (longs_idle c s 0 1 n) (omega (arith, some)) first

alone_stands : (c : Settings) (s : Shape) → IsUnit c s → 2 ≤ room c → c.longest ≤ s.size
    → Stands c s (alone c s) (record_of s (long_read c (room c - 1)) 0 c.budget ∷ []) nothing (c.longest - 1)
alone_stands c s w many fits =
    let passed = pass_stands c s (freed c s) w fits (freed_stands c s w many fits) c.budget (omega arith) in
    let rest = rest_stands c s (pass_on c s (freed c s) c.budget) c.budget w fits passed (room c - 2) 0
    (omega (arith, many)) in
    search (arith, stands_as)

-- ---- the command

-- where it came
abbrev place : Settings → Shape → ℕ
place c s = length (come_on c s (opened s (room c)) (room c - 1))

abbrev own_name : Settings → Name
own_name c = name_on (connection_at c (room c - 1)) (room c - 1)

alone_sees : (c : Settings) (s : Shape) → IsUnit c s → 2 ≤ room c → c.longest ≤ s.size
    → Sees (alone c s) (place c s) (own_name c) s.number (0 + c.longest + c.budget + (room c - 2) * c.longest)
alone_sees c s w many fits =
    let n = room c - 1 in
    let y = place c s in
    let via = connection_at c n in
    let k = read_command s (long_read c n) in
    let t = come_on c s (opened s (room c)) n in
    let e : suc n ≡ room c = omega (arith, many) in
    let came = subst (λ i. Sees (come_on c s (opened s (room c)) i) y (own_name c) s.number 0) e
    (sees_first t via k (message_sent c (longs c s 0 0 n) nothing via k
    (long_sent c s n w fits (omega (arith, many))))) in
    let zeroth : 0 ≢ n = λ e. omega (arith, e, many) in
    let later : room c ≢ n = λ e. omega (arith, e, many) in
    let first = sees_run s (long_read c 0) 0 (come_on c s (opened s (room c)) (room c)) y (own_name c) s.number 0
    (differ (connection_at c 0) via 0 n zeroth) came in
    let passed = sees_pass c s (freed c s) y (own_name c) s.number (0 + c.longest) (differ First via (room c) n later)
    first c.budget in
    sees_rest c s (pass_on c s (freed c s) c.budget) y via n s.number (0 + c.longest + c.budget) passed (room c - 2)
    (omega (arith, many))

-- the steps that it has seen with its own
all_steps : (R L Q : ℕ) → 2 ≤ R → 1 ≤ L → 0 + L + Q + (R - 2) * L + (L - 1) + 1 ≡ R * L + Q
all_steps R L Q many some =
    let a : R ≡ R - 2 + 2 = omega (arith, many) in
    let b : R * L ≡ (R - 2 + 2) * L = ap (λ i. i * L) a in
    omega (arith, b, some)

-- ---- the whole

pub least : (c : Settings) (s : Shape) → IsUnit c s → 2 ≤ room c → c.longest ≤ s.size
    → IsLegal c (worst_of c s) × WaitsTheBound c s.number (worst_of c s)
least c s w many fits =
    let n = room c - 1 in
    let some = w.valid.some_blocks in
    let L = c.longest in
    let j = L - 1 in
    let x = long_read c n in
    let y = place c s in
    let t = alone c s in
    let u = steps_on s x j t j in
    let m = stepping s x j j in
    let v = u ++ m ∷ [] in
    let is = long_is c s n w fits (omega (arith, many)) in
    let whole : suc j ≡ L = omega (arith, some) in
    let before = runs_part c s t x j c.budget [] w is tt (alone_stands c s w many fits) j (omega (arith, some)) in
    let after = stands_stepped c s u [] x j j c.budget [] nothing w is (omega (arith, some))
    (oldest_can c s x j c.budget [] tt) before in
    let legal : IsLegal c v = after.holds.legal in
    let sees = sees_part s x j t y (own_name c) s.number (0 + L + c.budget + (room c - 2) * L)
    (alone_sees c s w many fits) j (omega (arith, some)) in
    let last : nat_lt 1 (L - j) ≡ false = le-ltb 1 (L - j) (omega (arith, some)) in
    let ends : ends_in (own_name c) m.1 ≡ true =
    (λ i. is_same (own_name c) (own_name c) refl i && is_some (if last i then None else Some (read_end s x))) in
    let gone : is_waiting v y ≡ false = is_waiting_before u m y sees.inside
    ∙ ((λ i. sees.waits i && not (ends_in (sees.named i) m.1)) ∙ ap not ends) in
    let steps : steps_after v y ≡ bound c = steps_more u m y sees.inside
    ∙ (ap (λ k. k + 1) sees.steps ∙ all_steps (room c) L c.budget many some) in
    let waited : is_waiting (take (length u) v) y ≡ true =
    ap (λ p. is_waiting p y) (take_at u (m ∷ []) (length u) refl) ∙ sees.waits in
    search (
      arith,
      command_before,
      waits_in,
      true≢false,
      All-contains,
      All-from_recursion,
      waiting_waits,
      counted,
      length_push,
    )

-- The same, by the unit's number.
pub least_of : (c : Settings) (number : ℕ) (s : Shape) → IsValid c → number < 2 ^ 16 → unit_found c number ≡ Some s
    → 2 ≤ room c → c.longest ≤ s.size → IsLegal c (worst_of c s) × WaitsTheBound c number (worst_of c s)
least_of c number s valid small found many fits = search (arith, found_number c.units number s found, least)

-- The same, where the unit was looked for.
pub least_found : (c : Settings) (number : ℕ) (us : List Shape) (found : Option Shape) (s : Shape) → IsValid c
    → number < 2 ^ 16 → us ≡ c.units → found ≡ list.unit_found us number → found ≡ Some s → 2 ≤ room c
    → c.longest ≤ s.size → IsLegal c (worst_of c s) × WaitsTheBound c number (worst_of c s)
least_found c number us found s valid small same is some = search (arith, least_of)

-- The bound is the least.
pub the_least : (c : Settings) (number : ℕ) → IsValid c → number < 2 ^ 16 → can_wait_the_bound c number ≡ true
    → (t : Trace) × IsLegal c t × WaitsTheBound c number t
the_least c number valid small h =
    let p = and_parts (nat_le 2 (room c)) (has_longest c (unit_found c number)) h in
    let many = leb-true 2 (room c) p.0 in
    let Goal : Option Shape → Type 0 = λ o. unit_found c number ≡ o → has_longest c o ≡ true
    → (t : Trace) × IsLegal c t × WaitsTheBound c number t in
    let both : (o : Option Shape) → Goal o =
    λ o. elim o as Goal [
      | None ↦ λ e h. absurd (false≢true h)
      | Some s ↦ λ e h. let l = least_of c number s valid small e many (leb-true c.longest s.size h) in
          (worst_of c s, l.0, l.1)
    ] in
    both (unit_found c number) refl p.1
