-- A port has no news of a unit that is online, or that has no volume.
use Rattle.mscp_ported.proofs.Common.{Answered, Becomes, Bool, Buffer, Call, Connection, End, Hardware, Holdings, IsAvailable, IsMadeOf, IsNews, IsSomeAnd, IsUnitList, List, None, Option, Outgoing, OutgoingKind, Picking, Port, Says, Shape, Some, TellsNews, Volume, [], ap, arith, attention, cond, end_bytes, end_kind, eqb-true, false, false≢true, length, news_place, none-some, option_map, protected_by, refl, same_Some, set, slice_get, subst, suc, sym, true, volume_at, volume_heeded, volumes_after, volumes_heeded, volumes_with, zero, ℕ, ◌<◌, ◌==◌, ◌∙◌, ◌∷◌, ◌≡◌, ◌≤◌}
use Rattle.mscp_ported.proofs.Credits.{settings_still}
use Rattle.mscp_ported.proofs.Loads.{looks_or_not}
use Rattle.mscp_ported.proofs.Minor.{minor, minor_out}
use Rattle.mscp_ported.proofs.Volumes.{Remounted, remounted, set_at}
use Rattle.std.specs.Prelude.{◌/◌, ◌%◌}
use Rattle.std.proofs.lemmas.List.Quantifiers.{position-Some}
use Rattle.mscp_port.specs.declared.port.OutgoingKind.TheVariants as kinds

-- ---- a volume

-- if its host is to hear of it, it is there, and its unit isn't online
record IsFresh (v : Volume) : Type 0 where
  there : v.is_news ≡ true → v.is_there ≡ true
  offline : v.is_news ≡ true → v.is_mounted ≡ false

not_new : (v : Volume) → v.is_news ≡ false → IsFresh v
not_new v e = grind (arith, false≢true)

either : (b : Bool) (x y : Volume) → IsFresh x → IsFresh y → IsFresh (cond b x y)
either true x y f g = f
either false x y f g = g

guarded : (b : Buffer) (v : Volume) → IsFresh v → IsFresh (protected_by b v)
guarded b v f = either (b.modifiers / 4 % 2 == 1) _ v (record { there = f.there; offline = f.offline }) f

left : (v : Volume) → IsFresh v → IsFresh (record v { is_mounted = false; is_protected_by_host = false })
left v f = record { there = f.there; offline = λ e. refl }

heeded : (code : ℕ) (kept : Option Buffer) (v : Volume) → IsFresh v → IsFresh (volume_heeded code kept v)
heeded code kept v f = grind (arith, either, left, guarded, not_new)

-- ---- the volumes

set_one : (place q : ℕ) (vs : List Volume) (x : Volume) → (IsFresh (volume_at vs q) → IsFresh x)
    → IsFresh (volume_at vs place) → IsFresh (volume_at (set vs q x) place)
set_one place q vs x keeps f = grind (arith, set_at, not_new)

module _ {K : Type 0} (call : Call) (old new : Port K) (place : ℕ) (low : place < 16) where
  abbrev FreshThen : List Volume → Type 0
  FreshThen ws = IsFresh (volume_at old.volumes place) → IsFresh (volume_at ws place)

  with_one : (becomes : Volume → Volume) (o : Option ℕ) → ((v : Volume) → IsFresh v → IsFresh (becomes v))
      → FreshThen (volumes_with becomes o old.volumes)
  with_one becomes None keeps f = f
  with_one becomes (Some q) keeps f = set_one place q old.volumes _ (keeps (volume_at old.volumes q)) f

  heeded_at : (code : ℕ) (kept : Option Buffer) (o : Option ℕ) → FreshThen (volumes_heeded code kept o old.volumes)
  heeded_at code kept None f = f
  heeded_at code kept (Some q) f = set_one place q old.volumes _ (heeded code kept (volume_at old.volumes q)) f

  after_end : (units : List Shape) (bs : List Buffer) (via : Connection) (ended : Option End)
      → FreshThen (volumes_after units bs via ended old.volumes)
  after_end units bs via None f = f
  after_end units bs via (Some e) f = heeded_at e.code _ _ f

  keeps_fresh : Remounted call old new → FreshThen new.volumes
  keeps_fresh h f = grind (arith, not_new, set_one, with_one, after_end)

-- ---- what begins to go out

abbrev is_attention : OutgoingKind → Bool
is_attention kinds.Attention = true
is_attention kinds.End = false
is_attention kinds.UtilitiesEnd = false

no_attention : (o : Outgoing) (b : Bool) → o.kind ≡ kinds.Attention → is_attention o.kind ≡ b → b ≡ true
no_attention o b kind e = sym e ∙ ap is_attention kind

own_kind : (foreign : Bool) → is_attention (end_kind foreign) ≡ false
own_kind true = refl
own_kind false = refl

module _ {K : Type 0} (old new : Port K) (none : old.outgoing ≡ None) (o : Outgoing) (some : new.outgoing ≡ Some o)
    (kind : o.kind ≡ kinds.Attention) where
  kept : new.outgoing ≡ old.outgoing → TellsNews old new
  kept e = absurd (none-some o (sym none ∙ (sym e ∙ some)))

  gone : new.outgoing ≡ None → TellsNews old new
  gone e = absurd (none-some o (sym e ∙ some))

  own : (foreign : Bool) (e : Option End) → IsSomeAnd e (λ x. IsSomeAnd new.outgoing
      (λ y. (y.bytes.items ≡ end_bytes x) × (y.kind ≡ end_kind foreign))) → TellsNews old new
  own foreign e h = grind (arith, false≢true, no_attention, own_kind)

  says_news : Says old new → TellsNews old new
  says_news says = grind (arith, looks_or_not, false≢true, no_attention, same_Some, kept)

  by_call : (picks : Picking K) (call : Call) → Becomes picks call old new → TellsNews old new
  by_call picks call r = grind (arith, gone, kept, says_news, own, minor_out, minor)

inside : {X : Type 0} (xs : List X) (n : ℕ) (x : X) → slice_get xs n ≡ Some x → n < length xs
inside [] n x e = absurd (none-some x e)
inside (y ∷ ys) zero x e = search arith
inside (y ∷ ys) (suc n) x e = search (arith, inside ys n x e)

-- the place of the news, where some are wanted
place_of : (b : Bool) (o : Option ℕ) (q : ℕ) → cond b o None ≡ Some q → (b ≡ true) × (o ≡ Some q)
place_of true o q e = (refl, e)
place_of false o q e = absurd (none-some q e)

available : {K : Type 0} (p : Port K) (o : Outgoing) (q : ℕ) (unit : Shape) → length p.controller.settings.units ≤ 16
    → ((place : ℕ) → place < 16 → IsFresh (volume_at p.volumes place)) → news_place p ≡ Some q
    → slice_get p.controller.settings.units q ≡ Some unit
    → o.bytes.items ≡ attention unit (volume_at p.volumes q) → IsAvailable p o q
available p o q unit few fresh at there bytes = grind (arith, place_of, position-Some, inside, eqb-true)

is_of : {K : Type 0} (p : Port K) (o : Outgoing) (out : Option Outgoing) (ws : List Volume)
    → length p.controller.settings.units ≤ 16
    → ((place : ℕ) → place < 16 → IsFresh (volume_at p.volumes place)) → out ≡ Some o
    → (at : Option ℕ) → news_place p ≡ at → IsNews p.controller.settings.units p.volumes at out ws
    → (place : ℕ) × IsAvailable p o place
is_of p o out ws few fresh some None at h = absurd (none-some o (sym h.0 ∙ some))
is_of p o out ws few fresh some (Some q) at h = by (slice_get p.controller.settings.units q) refl
  where
    by : (x : Option Shape) → slice_get p.controller.settings.units q ≡ x → (place : ℕ) × IsAvailable p o place
    by None e = absurd (none-some o (sym (ap (option_map (λ unit. record {
      bytes = record { items = attention unit (volume_at p.volumes q) };
      kind = kinds.Attention;
    })) e) ∙ sym h.0 ∙ some))
    by (Some unit) e = (
      q,
      available p o q unit few fresh at e (ap (λ y. y.bytes.items) (same_Some o (record {
        bytes = record { items = attention unit (volume_at p.volumes q) };
        kind = kinds.Attention;
      }) (sym some ∙ h.0 ∙ ap (option_map (λ unit. record {
        bytes = record { items = attention unit (volume_at p.volumes q) };
        kind = kinds.Attention;
      })) e))),
    )

module _ {K : Type 0} (picks : Picking K) (hardware : Hardware) (credits : ℕ) (controller : Holdings K)
    (start : Port K) (made : IsMadeOf hardware credits controller start) where
  fresh : (p : Port K) (calls : List Call) → Answered picks start calls p → (place : ℕ) → place < 16
      → IsFresh (volume_at p.volumes place)
  fresh p [] e place low = subst (λ q. IsFresh (volume_at q.volumes place)) (sym e)
      (not_new (volume_at start.volumes place) (ap (λ v. v.is_news) (made.volumes place low)))
  fresh p (call ∷ calls) a place low =
      keeps_fresh call a.0 p place low (remounted picks call a.0 p a.2) (fresh a.0 calls a.1 place low)

  pub announces : (p : Port K) (call : Call) (calls : List Call) (o : Outgoing)
      → IsUnitList controller.settings.units → (a : Answered picks start (call ∷ calls) p) → a.0.outgoing ≡ None
      → p.outgoing ≡ Some o → o.kind ≡ kinds.Attention → (place : ℕ) × IsAvailable a.0 o place
  announces p call calls o units a none some kind =
      let n = by_call a.0 p none o some kind picks call a.2 in
      let same = ap (λ s. s.units) (settings_still picks start a.0 calls a.1 ∙ ap (λ h. h.settings) made.over) in
      is_of a.0 o p.outgoing p.volumes (subst (λ us. length us ≤ 16) (sym same) units.few) (fresh a.0 calls a.1) some
      (news_place a.0) refl n.out
