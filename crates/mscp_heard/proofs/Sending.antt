-- What a host is owed once it sent a message, or heard what a port said.
use Rattle.mscp_heard.proofs.Common.{AllByRecursion, Asked, End, Envelope, List, Ok, OutgoingKind, PortAccount, Said, Some, [], ap, append_assoc, arith, connection_told, drop, false, find, inl, inr, is_of, is_too_much, kind_of_code, length-append, map, message_in, num, refl, slice_get, slice_index, subst, suc, sym, ℕ, ◌++◌, ◌∙◌, ◌∷◌, ◌≡◌, ◌≤◌}
use Rattle.mscp_host.specs.declared.message.Message.TheVariants as messages
use Rattle.mscp_port.specs.declared.port.OutgoingKind.TheVariants as kinds
use Rattle.mscp_heard.proofs.Claims.{IsOwed, Owes, claim_of, claim_said, claims, claims_said, moved_in, owes_less, owes_more, owes_rest}
use Rattle.mscp_heard.proofs.Hosts.{Sends, Settles}
use Rattle.mscp_heard.proofs.Moving.{drop_at, drop_beside}
use Rattle.mscp_heard.proofs.Packets.{end_heard}
use Rattle.mscp_heard.proofs.Owing.{Inv, IsCoded}

module _ (asked : List Asked) (ss : List Said) (k : ℕ) (aw ms : List (List ℕ)) (n : ℕ) (i : Inv asked ss k aw ms n)
  where
    -- it sends a message
    pub by_message : (old new : PortAccount) (m : List ℕ) → old.asked ≡ asked → Sends old new m
        → Inv new.asked ss k aw (ms ++ m ∷ []) n
    by_message old new m same s =
        let longer : claims (drop k ss) aw (drop n (ms ++ m ∷ []))
        ≡ claims (drop k ss) aw (drop n ms) ++ claim_of m ∷ [] =
        ap (λ xs. claims (drop k ss) aw xs) (drop_beside n ms m i.read)
        ∙ ap (λ xs. claims_said (drop k ss) ++ (map claim_of aw ++ xs))
        (Rattle.std.proofs.lemmas.List.map-append claim_of (drop n ms) (m ∷ []))
        ∙ ap (λ xs. claims_said (drop k ss) ++ xs)
        (sym (append_assoc (map claim_of aw) (map claim_of (drop n ms)) (claim_of m ∷ [])))
        ∙ sym (append_assoc (claims_said (drop k ss)) (map claim_of aw
        ++ map claim_of (drop n ms)) (claim_of m ∷ [])) in
        record {
          owes = subst (λ xs. Owes xs (claims (drop k ss) aw (drop n (ms ++ m ∷ []))))
              (sym (s.asked ∙ ap (λ xs. xs ++ s.more ∷ []) same))
              (subst (λ cs. Owes (asked ++ s.more ∷ []) cs) (sym longer)
              (owes_more asked (claims (drop k ss) aw (drop n ms)) s.more (claim_of m)
              (ap (find (is_of (num m 0 4))) (sym same) ∙ s.new_number) s.number s.bytes i.owes));
          heard = i.heard;
          read = search (arith, i.read, length-append ms (m ∷ []));
          news = i.news;
        }

    -- it hears what was said next
    pub by_hearing : (s : Said) (v : Envelope) (b : List ℕ) (new : List Asked) → slice_get ss k ≡ Some s
        → b ≡ s.text → v.connection ≡ connection_told s.kind → Settles asked new (message_in v b)
        → Inv new ss (suc k) aw ms n
    by_hearing s v b new at text connection settles =
        let d = drop_at k ss s at in
        let whole : claims (drop k ss) aw (drop n ms)
        ≡ claim_said s.kind s.text ++ claims (drop (suc k) ss) aw (drop n ms) =
        ap (λ us. claims us aw (drop n ms)) d.0
        ∙ append_assoc (claim_said s.kind s.text) (claims_said (drop (suc k) ss)) (map claim_of aw
        ++ map claim_of (drop n ms)) in
        let news = subst (λ us. AllByRecursion IsCoded us) d.0 i.news in
        record {
          owes = by s.kind refl (subst (λ cs. Owes asked cs) whole i.owes) news.0 settles;
          heard = d.1;
          read = i.read;
          news = news.1;
        }
      where
        not_heard : (e : End) → s.kind ≡ kinds.Attention → slice_index s.text 8 ≡ 0x40
            → message_in v b ≡ Ok (messages.End e) → ⊥
        not_heard e kind code r =
            let h = end_heard v b e r in search (arith, h.1, ap (λ x. slice_index x 8) text ∙ code)

        not_disk : (e : End) → s.kind ≡ kinds.UtilitiesEnd → message_in v b ≡ Ok (messages.End e) → ⊥
        not_disk e kind r = grind (arith, end_heard)

        by : (kind : OutgoingKind) → s.kind ≡ kind
            → Owes asked (claim_said s.kind s.text ++ claims (drop (suc k) ss) aw (drop n ms)) → IsCoded s
            → Settles asked new (message_in v b) → Owes new (claims (drop (suc k) ss) aw (drop n ms))
        by kinds.Attention kind o code (inr r) = grind (arith, not_heard)
        by kinds.UtilitiesEnd kind o code (inr r) = absurd (not_disk r.0 kind r.1)
        by kinds.End kind o code (inl same) = subst (λ xs. Owes xs (claims (drop (suc k) ss) aw (drop n ms)))
            (sym same) (owes_rest asked _ (claims (drop (suc k) ss) aw (drop n ms))
            (subst (λ x. Owes asked (claim_said x s.text ++ claims (drop (suc k) ss) aw (drop n ms))) kind o))
        by kinds.End kind o code (inr r) =
            let h = end_heard v b r.0 r.1 in
            let named : r.0.reference ≡ num s.text 0 4 = h.2 ∙ ap (λ x. num x 0 4) text in
            subst (λ xs. Owes xs (claims (drop (suc k) ss) aw (drop n ms))) (sym r.2)
            (subst (λ m. Owes (Rattle.mscp_host.specs.PortAccounts.without_by (is_of m) asked)
            (claims (drop (suc k) ss) aw (drop n ms))) (sym named)
            (owes_less asked _ (claims (drop (suc k) ss) aw (drop n ms))
            (subst (λ x. Owes asked (claim_said x s.text ++ claims (drop (suc k) ss) aw (drop n ms))) kind o)))
        by other kind o code (inl same) = grind (arith, claims, claim_said)

    -- and each end in it is that of a command
    pub heard_own : (s : Said) (v : Envelope) (b : List ℕ) (e : End) → slice_get ss k ≡ Some s → b ≡ s.text
        → v.connection ≡ connection_told s.kind → message_in v b ≡ Ok (messages.End e)
        → (x : Asked) × (find (is_of e.reference) asked ≡ Some x) × (is_too_much e.body x.bytes ≡ false)
    heard_own s v b e at text connection r =
        let d = drop_at k ss s at in
        let h = end_heard v b e r in
        let news = subst (λ us. AllByRecursion IsCoded us) d.0 i.news in
        by s.kind refl news.0 h
        (subst (λ cs. AllByRecursion (IsOwed asked) cs) (ap (λ us. claims us aw (drop n ms)) d.0
        ∙ append_assoc (claim_said s.kind s.text) (claims_said (drop (suc k) ss)) (map claim_of aw
        ++ map claim_of (drop n ms)))
        i.owes.known)
      where
        by : (kind : OutgoingKind) → s.kind ≡ kind → IsCoded s
            → ((v.connection ≡ 0) × (0x80 ≤ slice_index b 8) × (e.reference ≡ num b 0 4)
            × ((m : ℕ) → moved_in (kind_of_code (slice_index b 8)) (num b 12 4) ≤ m → is_too_much e.body m ≡ false))
            → AllByRecursion (IsOwed asked) (claim_said s.kind s.text ++ claims (drop (suc k) ss) aw (drop n ms))
            → (x : Asked) × (find (is_of e.reference) asked ≡ Some x) × (is_too_much e.body x.bytes ≡ false)
        by kinds.Attention kind code h all = grind arith
        by kinds.UtilitiesEnd kind code h all = grind arith
        by kinds.End kind code h all = grind (arith, claim_said, claims, moved_in)
