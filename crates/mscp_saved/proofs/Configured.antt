-- What comes of settings.
use Rattle.mscp_saved.proofs.Common.{◌≡◌, ℕ, true, false, List, [], refl, arith, num, settings_in, Option, Some, None, is_some, if◌then◌else◌, false_from_ne_true, Shape, IsUnitList, ConfigFault, Settings, limit_fault, are_units, settings_fault, RestoreFault}
use Rattle.mscp_saved.proofs.Rising.{test_of_units, units_of_test}

after_units : (c : Settings) → are_units c.units ≡ true
    → settings_fault c ≡ (if is_some (limit_fault c) then Some RestoreFault.Limits else None)
after_units c e = search arith

pub no_units : (c : Settings) → (IsUnitList c.units → ⊥) → Some RestoreFault.Units ≡ settings_fault c
no_units c none = search (arith, false_from_ne_true, units_of_test)

pub no_limits : (c : Settings) → IsUnitList c.units → is_some (limit_fault c) ≡ true
    → Some RestoreFault.Limits ≡ settings_fault c
no_limits c units e = search (arith, test_of_units c.units units, after_units)

pub no_fault : (c : Settings) → IsUnitList c.units → is_some (limit_fault c) ≡ false → None ≡ settings_fault c
no_fault c units e = search (arith, test_of_units c.units units, after_units)

-- settings without a fault
pub units_good : (c : Settings) → settings_fault c ≡ None → IsUnitList c.units
units_good c e = search (arith, false_from_ne_true, units_of_test)

pub limits_good : (c : Settings) → settings_fault c ≡ None → limit_fault c ≡ None
limits_good c e = by (limit_fault c) refl
  where
    by : (o : Option ConfigFault) → limit_fault c ≡ o → o ≡ None
    by None f = refl
    by (Some fault) f = search (arith, after_units, false_from_ne_true)

pub none_of : {X : Type 0} {o : Option X} → is_some o ≡ false → o ≡ None
none_of {o = o} e = grind arith

-- settings of these limits alone
abbrev pub limits : (credits second budget longest timeout : ℕ) → Settings
limits c s g l t =
    record { credits = c; second = s; budget = g; longest = l; timeout = t; id = 0; units = [] }

-- limits that were read are those that the head tells, whatever the identifier and the units are
pub limits_told : (b : List ℕ) (us : List Shape) {credits second budget longest timeout : ℕ} → credits ≡ num b 12 4
    → second ≡ num b 16 4 → budget ≡ num b 20 4 → longest ≡ num b 24 4 → timeout ≡ num b 28 2
    → limit_fault (limits credits second budget longest timeout)
    ≡ limit_fault (record (settings_in b []) { units = us })
limits_told b us c s g l t = λ i. limit_fault (limits (c i) (s i) (g i) (l i) (t i))
