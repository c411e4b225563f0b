-- What a port answers itself keeps the rules of statuses and of bytes, and tells nothing of the controller.
use Rattle.mscp_logged.proofs.Common.{Bool, First, List, None, Option, Own, Settings, Some, Volume, [], and_parts, answer_by, ap, arith, cond, controller_in, count_of, false, has_code, has_count, has_status, inl, inr, is_plain, length, little_bytes, is_transfer_opcode, nat_eq, nat_le, nat_lt, not, num, own_answer, own_cases, own_text, refl, replicate, sent_by, slice_index, status_code, subst, sym, true, ℕ, ◌&&◌, ◌++◌, ◌+◌, ◌||◌, ◌∙◌, ◌∷◌, ◌≡◌, ◌≤◌, ◌⊎◌}
use Rattle.mscp_logged.proofs.Suited.{IsKnown, IsSuited, formal_suited}
use Rattle.mscp_ported.proofs.Rows.{formal_opcode, move_opcode}

module _ (b : List ℕ) (long : nat_le 32 (length b) ≡ true) where
  at_least : 32 ≤ length b
  at_least = search (arith, long)

  short : nat_lt (length b) 32 ≡ false
  short = search (arith, at_least)

  has_block : nat_lt 28 (length b) ≡ true
  has_block = search (arith, at_least)

  has_count_byte : nat_lt 12 (length b) ≡ true
  has_count_byte = search (arith, at_least)

  has_parameter : nat_le 16 (length b) ≡ true
  has_parameter = search (arith, at_least)

  abbrev refused_text : ℕ → ℕ → List ℕ
  refused_text status n =
      little_bytes 4 (num b 0 4) ++ little_bytes 2 (num b 4 2) ++ (0 ∷ 0 ∷ (n + 0x80) ∷ 0 ∷ [])
      ++ little_bytes 2 status ++ replicate 20 0

  abbrev RefusedStatus : ℕ → ℕ → Type 0
  RefusedStatus status n =
      has_status (record (sent_by First b) { opcode = n }) (answer_by First (refused_text status n)) ≡ true

  abbrev RefusedCount : ℕ → ℕ → Type 0
  RefusedCount status n = has_count (answer_by First (refused_text status n))
      (count_of (record (sent_by First b) { opcode = n }) (answer_by First (refused_text status n))) ≡ true

  abbrev RefusedKnown : Settings → ℕ → ℕ → Type 0
  RefusedKnown c status n = IsKnown c (controller_in (refused_text status n))

  -- where this is whether the message is shorter than its opcode asks, and whether it has the byte of its sub-code
  abbrev status_if : ℕ → ℕ → Bool → Bool → Bool
  status_if status n short there =
      let y = record (sent_by First b) { opcode = n } in
      let e = answer_by First (refused_text status n) in
      has_code y e && (not short || not (nat_eq (status_code e) 0)) && is_plain y e
      && (not (nat_eq (status_code e) 1) || short || there)

  -- its sub-code is the offset of the block, or of the count
  first_past : (n : ℕ) → is_transfer_opcode n ≡ true → RefusedStatus 0x1C01 n
  first_past = move_opcode (RefusedStatus 0x1C01) (points 16) (points 18) (points 32) (points 33) (points 34)
    where
      points : (n : ℕ) → status_if 0x1C01 n (nat_lt (length b) 32) (nat_lt 28 (length b))
          ≡ status_if 0x1C01 n false true
      points n = ap (λ s. status_if 0x1C01 n s (nat_lt 28 (length b))) short ∙ ap (status_if 0x1C01 n false) has_block

  other_past : (n : ℕ) → is_transfer_opcode n ≡ true → RefusedStatus 0x0C01 n
  other_past = move_opcode (RefusedStatus 0x0C01) (points 16) (points 18) (points 32) (points 33) (points 34)
    where
      points : (n : ℕ) → status_if 0x0C01 n (nat_lt (length b) 32) (nat_lt 12 (length b))
          ≡ status_if 0x0C01 n false true
      points n = grind (arith, short, has_count_byte)

  counts_none : (status : ℕ) → (status ≡ 0x1C01) ⊎ (status ≡ 0x0C01) → (n : ℕ) → is_transfer_opcode n ≡ true
      → RefusedCount status n
  counts_none status (inl e) n is = subst (λ s. RefusedCount s n) (sym e)
      (move_opcode (RefusedCount 0x1C01) (none 16) (none 18) (none 32) (none 33) (none 34) n is)
    where
      none : (n : ℕ) → has_count (answer_by First (refused_text 0x1C01 n))
          (cond (nat_le 16 (length b)) (Some (num b 12 4)) None) ≡ true
      none n = grind (arith, has_parameter)
  counts_none status (inr e) n is = subst (λ s. RefusedCount s n) (sym e)
      (move_opcode (RefusedCount 0x0C01) (none 16) (none 18) (none 32) (none 33) (none 34) n is)
    where
      none : (n : ℕ) → has_count (answer_by First (refused_text 0x0C01 n))
          (cond (nat_le 16 (length b)) (Some (num b 12 4)) None) ≡ true
      none n = grind (arith, has_parameter)

  refused_status : (status : ℕ) → (status ≡ 0x1C01) ⊎ (status ≡ 0x0C01) → (n : ℕ) → is_transfer_opcode n ≡ true
      → RefusedStatus status n
  refused_status status (inl e) n is = subst (λ s. RefusedStatus s n) (sym e) (first_past n is)
  refused_status status (inr e) n is = subst (λ s. RefusedStatus s n) (sym e) (other_past n is)

  refused_known : (c : Settings) (status n : ℕ) → is_transfer_opcode n ≡ true → RefusedKnown c status n
  refused_known c status n =
      move_opcode (RefusedKnown c status) (inl refl) (inl refl) (inl refl) (inl refl) (inl refl) n

pub own_suited : (c : Settings) (v : Option Volume) (b : List ℕ) → 12 ≤ length b → (own : Own)
    → own_answer false v b ≡ Some own → IsSuited (own_text b own) b × IsKnown c (controller_in (own_text b own))
own_suited c v b long = own_cases v b (λ own. IsSuited (own_text b own) b × IsKnown c (controller_in (own_text b own)))
    (λ asks. (
      formal_suited b long (num b 0 4) (num b 4 2) (slice_index b 8 + 0x80) 0 asks refl (inl refl),
      formal_opcode (λ n. IsKnown c (controller_in (own_text b (record {
        code = n + 0x80;
        status = 0;
        tells_bytes = false;
      })))) (inl refl) (inl refl) (inl refl) (slice_index b 8) asks,
    ))
    (λ status moves past.
    let m = and_parts (is_transfer_opcode (slice_index b 8)) (nat_le 32 (length b)) moves in (
      record {
        status = refused_status b m.1 status past (slice_index b 8) m.0;
        count = counts_none b m.1 status past (slice_index b 8) m.0;
      },
      refused_known b m.1 c status (slice_index b 8) m.0,
    ))
