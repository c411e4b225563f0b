-- A port holds the command or the end of each message that is awaited.
use Rattle.mscp_ported.proofs.Common.{AllByRecursion, Answered, AnsweredCalls, Bool, Call, Choice, ControllersKeepThePromise, First, Hardware, Holdings, HoldsAwaited, IsMadeOf, IsValid, KeepsPromise, List, Made, Name, None, Option, Picking, Port, ReadsBytes, Record, Settings, Some, Trace, [], ap, arith, awaited, false, figure, figure_at_place, figure_found, figure_of, figure_of_name, filter, find, fresh, has_name, history, inl, inr, length, map, name, name_of, name_on, none-some, option_map, outstanding_of, position_none, refl, same_name, subst, sym, take_all, true, waiting, waiting_waits, waits_in, ℕ, ◌<◌, ◌↔◌, ◌∙◌, ◌∷◌, ◌≡◌, ◌≤◌}
use Rattle.mscp_ported.proofs.Kept.{is_numbered}
use Rattle.std.specs.Prelude.{◌^◌, Contains}
use Rattle.mscp_ported.proofs.Coming.{ends_of}
use Rattle.mscp_ported.proofs.Ended.{kept}
use Rattle.mscp_ported.proofs.Falling.{found_of}
use Rattle.mscp_ported.proofs.Numbered.{At, some_none}
use Rattle.mscp_ported.proofs.Promised.{knows}
use Rattle.mscp_ported.proofs.Sole.{found_sole}

-- ---- figures

found_mapped : {X Y : Type 0} (f : Y → Bool) (g : X → Y) (xs : List X)
    → find f (map g xs) ≡ option_map g (find (λ x. f (g x)) xs)
found_mapped f g [] = refl
found_mapped f g (x ∷ xs) = grind (arith, found_mapped f g xs)

mapped_some : {X Y : Type 0} (g : X → Y) (o : Option X) (y : Y) → option_map g o ≡ Some y → (x : X) × (o ≡ Some x)
mapped_some g None y e = absurd (none-some y e)
mapped_some g (Some x) y e = (x, refl)

each_fails : {X : Type 0} (f : X → Bool) (xs : List X) → filter f xs ≡ [] → AllByRecursion (λ x. f x ≡ false) xs
each_fails f [] e = tt
each_fails f (x ∷ xs) e = grind (arith, each_fails f xs)

-- none waits, and so the figure is 0
pub no_figure : (budget n : ℕ) (rs : List Record) → filter (is_numbered n) rs ≡ []
    → figure_of_name budget rs (name_on First n) ≡ 0
no_figure budget n rs none = ap (figure_at_place budget rs)
    (position_none (has_name (name_on First n)) rs (each_fails (is_numbered n) rs none))

module _ {K : Type 0} (picks : List Choice → ℕ → Type 0) (c : Settings) (calls : List Made) (held : Holdings K)
    (q : KeepsPromise picks c calls held) (n : ℕ) where
  abbrev t : Trace
  t = history calls

  abbrev m : Name
  m = name_on First n

  shown : figure_of_name held.settings.budget held.waiting m ≡ figure_of c t m
  shown = ap (λ (s : Settings). figure_of_name s.budget held.waiting m) q.settings ∙ q.figure m

  -- one waits, and so it is 1 or more
  pub some_figure : (r : Record) → filter (is_numbered n) held.waiting ≡ r ∷ []
      → 1 ≤ figure_of_name held.settings.budget held.waiting m
  unfolding figure_of
  some_figure r sole =
      let o = mapped_some (name t) (find (λ x. same_name (name t x) m) (waiting t)) (name_of r)
      (sym (found_mapped (λ x. same_name x m) (name t) (waiting t))
      ∙ ap (find (λ x. same_name x m)) (sym q.waiting)
      ∙ found_mapped (λ x. same_name x m) name_of held.waiting
      ∙ ap (option_map name_of) (found_sole (is_numbered n) held.waiting r sole)) in
      let w = found_of (λ x. Rattle.mscp_controller.specs.Commands.is_waiting t x ≡ true)
      (λ x. same_name (name t x) m) (waiting t) o.0 (waiting_waits t) o.1 in
      subst (λ x. 1 ≤ x) (sym (shown ∙ ap (figure_found c t) o.1)) (positive o.0 (waits_in t o.0 w.0))
    where
      positive : (x : ℕ) → Contains (waiting t) x → 1 ≤ figure c t x
      positive x there = (subst (λ z. (x : ℕ) → Contains (waiting z) x ↔ (1 ≤ figure c z x)) (take_all (length t) t
          (search arith))
          (q.promise.positive (length t) (search arith)) x).0 there

  -- and it is small
  pub small_figure : IsValid c → figure_of_name held.settings.budget held.waiting m < 2 ^ 32
  unfolding figure_of
  small_figure valid = grind (arith, shown, take_all)

-- ---- the law

module _ {K : Type 0} (picks : Picking K) (c : Settings) (picker : K)
    (keeps : ControllersKeepThePromise (picks picker) picker) (valid : IsValid c) (before : List Made)
    (hardware : Hardware) (credits : ℕ) (controller : Holdings K) (start : Port K)
    (was : AnsweredCalls (picks picker) (fresh c picker) before controller)
    (made : IsMadeOf hardware credits controller start) (quiet : outstanding_of First controller ≡ [])
    (p : Port K) (calls : List Call) (reads : ReadsBytes calls) (a : Answered picks start calls p) where
  abbrev aw : List (List ℕ)
  aw = awaited picks start p calls a

  pub promised : (ms : List Made) × KeepsPromise (picks picker) c ms p.controller
  promised =
      let k = knows picks c picker keeps valid before hardware credits controller start was made p calls a in
      (k.made, keeps c k.made p.controller valid k.answered)

  pub holds_awaited : (n : ℕ) → HoldsAwaited p aw n
  holds_awaited n = by ((kept picks c picker keeps valid before hardware credits controller start was made quiet p
      calls reads a).each n)
    where
      none_low : (x : ℕ) → x ≡ 0 → 1 ≤ x → ⊥
      none_low x e h = search (arith, e, h)

      by : At aw p.controller.waiting (ends_of p.controller) n → HoldsAwaited p aw n
      by (inl x) = grind (arith, none_low, no_figure)
      by (inr (inl w)) = record {
        there = λ some. inl (some_figure (picks picker) c promised.0 p.controller promised.1 n w.own w.sole);
        waits = λ low e. some_none w.text [] (sym w.message ∙ e);
        ended = λ holds. absurd (holds w.no_end);
        one = λ low holds. holds w.no_end;
      }
      by (inr (inr x)) = grind (arith, some_none, none_low, no_figure)
