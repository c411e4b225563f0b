-- What a host is owed, and what a call of its port makes of that.
use Rattle.mscp_heard.proofs.Common.{AllByRecursion, Asked, BodyKind, IsTextOf, List, Ok, Option, Result, Said, Some, [], ap, arith, bytes_in, drop, every_append, filter, has_number, kind_of_code, length, length-append, not, num, slice_get, slice_index, subst, suc, sym, ℕ, ◌++◌, ◌∙◌, ◌∷◌, ◌≡◌, ◌≤◌}
use Rattle.mscp_packet.specs.declared.end.BodyKind.TheVariants as bodykinds
use Rattle.mscp_port.specs.declared.port.OutgoingKind.TheVariants as kinds
pub use Rattle.mscp_ported.proofs.Growing.{begun_one}
pub use Rattle.mscp_ported.proofs.Itself.{own_bytes, own_number, own_whole, since_alive}
use Rattle.mscp_heard.proofs.Claims.{Owes, claim_said, claims, moved_in}
use Rattle.mscp_heard.proofs.Moving.{drop_at, drop_beside, end_said, news_said, text_answered, text_taken}
use Rattle.mscp_heard.proofs.Packets.{IsRead}

pub same_ok : {X E : Type 0} (x y : X) → ◌≡◌ {A = Result X E} (Ok x) (Ok y) → x ≡ y
same_ok x y e = search (arith, e)

abbrev pub IsCoded : Said → Type 0
IsCoded s = IsRead s.kind s.text

-- so much was heard of what was said, and so many messages of those that were sent were read
pub record Inv (asked : List Asked) (said : List Said) (k : ℕ) (aw sent : List (List ℕ)) (n : ℕ) : Type 0 where
  pub owes : Owes asked (claims (drop k said) aw (drop n sent))
  pub heard : k ≤ length said
  pub read : n ≤ length sent
  pub news : AllByRecursion IsCoded (drop k said)

pub inv_as : (asked : List Asked) (ss ss' : List Said) (k : ℕ) (aw aw' ms : List (List ℕ)) (n n' : ℕ) → ss ≡ ss'
    → aw ≡ aw'
    → n ≡ n' → Inv asked ss' k aw' ms n' → Inv asked ss k aw ms n
inv_as asked ss ss' k aw aw' ms n n' e f g i = grind arith

pub moved_few : (k : Option BodyKind) (x n : ℕ) → (k ≡ Some bodykinds.Moved → x ≤ n) → moved_in k x ≤ n
moved_few k x n h = grind arith

moved_none : (k : Option BodyKind) (x : ℕ) → x ≡ 0 → moved_in k x ≡ 0
moved_none k x e = grind arith

-- ---- a call

module _ (asked : List Asked) (ss : List Said) (k : ℕ) (aw ms : List (List ℕ)) (n : ℕ)
    (i : Inv asked ss k aw ms n) where
  -- news
  pub by_news : (s : Said) → s.kind ≡ kinds.Attention → IsCoded s → Inv asked (ss ++ s ∷ []) k aw ms n
  by_news s kind code = record {
    owes = subst (λ us. Owes asked (claims us aw (drop n ms))) (sym (drop_beside k ss s i.heard))
        (news_said asked (drop k ss) aw (drop n ms) i.owes s (ap (λ x. claim_said x s.text) kind));
    heard = search (arith, i.heard, length-append ss (s ∷ []));
    read = i.read;
    news = subst (λ us. AllByRecursion IsCoded us) (sym (drop_beside k ss s i.heard))
        (every_append IsCoded (drop k ss) (s ∷ []) i.news (code, tt));
  }

  -- the end of a message
  pub by_end : (s : Said) (t : List ℕ) → s.kind ≡ kinds.End → IsCoded s
      → filter (has_number (num s.text 0 4)) aw ≡ t ∷ []
      → moved_in (kind_of_code (slice_index s.text 8)) (num s.text 12 4) ≤ bytes_in t
      → Inv asked (ss ++ s ∷ []) k (filter (λ x. not (has_number (num s.text 0 4) x)) aw) ms n
  by_end s t kind code only few = record {
    owes = subst (λ us. Owes asked (claims us (filter (λ x. not (has_number (num s.text 0 4) x)) aw) (drop n ms)))
        (sym (drop_beside k ss s i.heard))
        (end_said asked (drop k ss) aw (drop n ms) i.owes s t kind only few);
    heard = search (arith, i.heard, length-append ss (s ∷ []));
    read = i.read;
    news = subst (λ us. AllByRecursion IsCoded us) (sym (drop_beside k ss s i.heard))
        (every_append IsCoded (drop k ss) (s ∷ []) i.news (code, tt));
  }

  -- a message that the controller takes
  pub by_text : (t m : List ℕ) → slice_get ms n ≡ Some m → IsTextOf t m → Inv asked ss k (aw ++ t ∷ []) ms (suc n)
  by_text t m at is =
      let d = drop_at n ms m at in
      record {
        owes = text_taken asked (drop k ss) aw (drop (suc n) ms) t m is
            (subst (λ xs. Owes asked (claims (drop k ss) aw xs)) d.0 i.owes);
        heard = i.heard;
        read = d.1;
        news = i.news;
      }

  -- or that the port answers
  pub by_answer : (s : Said) (t m : List ℕ) → slice_get ms n ≡ Some m → IsTextOf t m → s.kind ≡ kinds.End → IsCoded s
      → num s.text 0 4 ≡ num t 0 4 → num s.text 12 4 ≡ 0 → Inv asked (ss ++ s ∷ []) k aw ms (suc n)
  by_answer s t m at is kind code named none =
      let d = drop_at n ms m at in
      record {
        owes = subst (λ us. Owes asked (claims us aw (drop (suc n) ms))) (sym (drop_beside k ss s i.heard))
            (text_answered asked (drop k ss) aw (drop (suc n) ms) s m kind (named ∙ is.number)
            (moved_none (kind_of_code (slice_index s.text 8)) (num s.text 12 4) none)
            (subst (λ xs. Owes asked (claims (drop k ss) aw xs)) d.0 i.owes));
        heard = search (arith, i.heard, length-append ss (s ∷ []));
        read = d.1;
        news = subst (λ us. AllByRecursion IsCoded us) (sym (drop_beside k ss s i.heard))
            (every_append IsCoded (drop k ss) (s ∷ []) i.news (code, tt));
      }

pub one_more : {X : Type 0} (xs ys : List X) (x : X) → ys ≡ xs ++ x ∷ [] → length ys ≡ suc (length xs)
one_more xs ys x e = ap length e ∙ search (arith, length-append xs (x ∷ []))
