-- Names are the same exactly where both of their parts are.
use Rattle.mscp_queue.proofs.Common.{◌≡◌, ◌≢◌, true, false, ◌&&◌, refl, ap, sym, ◌∙◌, subst, arith, nat_eq, and_parts, eq-eqb, eqb-true, false≢true, true≢false, Connection, Name, same_connection, same_name}

pub one_side : (a b : Connection) → same_connection a b ≡ true → a ≡ b
one_side a b h2 = grind (arith, false≢true)

pub same_is : (x y : Name) → same_name x y ≡ true → x ≡ y
same_is x y h = grind (arith, and_parts, one_side, eqb-true)

pub own_side : (a : Connection) → same_connection a a ≡ true
own_side a = grind arith

itself : (x : Name) → same_name x x ≡ true
itself x = ap (λ b. b && nat_eq x.reference x.reference) (own_side x.connection) ∙ eq-eqb x.reference x.reference refl

pub is_same : (x y : Name) → x ≡ y → same_name x y ≡ true
is_same x y e = subst (λ z. same_name x z ≡ true) e (itself x)

pub differ_is : (x y : Name) → same_name x y ≡ false → x ≢ y
differ_is x y h = λ e. true≢false (sym (is_same x y e) ∙ h)

pub is_differ : (x y : Name) → x ≢ y → same_name x y ≡ false
is_differ x y d = search (arith, same_is)

pub other_side : (a b : Connection) → same_connection a b ≡ false → same_connection b a ≡ false
other_side a b h2 = grind arith
