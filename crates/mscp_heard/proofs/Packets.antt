-- What a host reads in a packet that a port told.
use Rattle.mscp_heard.proofs.Common.{BodyKind, Bool, End, Envelope, Err, HearFault, IsWhole, List, Message, None, Ok, Option, OutgoingKind, Result, Some, any_end, arith, bare_end, body_at, cond, end_at, end_in, end_length, false, get_or-take, is_too_much, kind_of_code, length, length-take, message_in, nat_eq, nat_le, nat_lt, not, num, reading_with, refl, sequential_in, slice_index, subst, sym, take, take_all, true, typed_in, ℕ, ◌*◌, ◌+◌, ◌<◌, ◌∙◌, ◌≡◌, ◌≤◌}
use Rattle.std.specs.Prelude.{◌&&◌}
use Rattle.mscp_packet.specs.declared.end.BodyKind.TheVariants as bodykinds
use Rattle.mscp_packet.specs.declared.end.EndBody.TheVariants as bodies
use Rattle.mscp_packet.specs.declared.reading.EndFault.TheVariants as endfaults
use Rattle.mscp_host.specs.declared.message.HearFault.TheVariants as faults
use Rattle.mscp_port.specs.declared.port.OutgoingKind.TheVariants as kinds
use Rattle.mscp_host.specs.declared.message.Message.TheVariants as messages
use Rattle.mscp_heard.proofs.Claims.{moved_in}

-- an end in a text
pub record IsEndIn (e : End) (t : List ℕ) : Type 0 where
  pub long : 12 ≤ length t
  pub top : 0x80 ≤ slice_index t 8
  pub reference : e.reference ≡ num t 0 4
  pub moved : (n : ℕ) → moved_in (kind_of_code (slice_index t 8)) (num t 12 4) ≤ n → is_too_much e.body n ≡ false
  pub whole : kind_of_code (slice_index t 8) ≡ Some bodykinds.Moved → 32 ≤ length t
  pub code : e.code ≡ slice_index t 8
  pub told : (other figure : ℕ) → e.body ≡ bodies.Status other figure
      → (other ≡ num t 12 4) × (figure ≡ num t 16 4) × (20 ≤ length t)

not_more : (n m : ℕ) → m ≤ n → nat_lt n m ≡ false
not_more n m h = search (arith, h)

not_less : (n m : ℕ) → nat_lt n m ≡ false → m ≤ n
not_less n m h = search (arith, h)

top_bit : (n : ℕ) → nat_le 0x80 n ≡ true → 0x80 ≤ n
top_bit n h = search (arith, h)

module _ (t : List ℕ) (e : End) (long : 12 ≤ length t) (top : 0x80 ≤ slice_index t 8) where
  body_few : (k : BodyKind) (n : ℕ) → moved_in (Some k) (num t 12 4) ≤ n → is_too_much (body_at k t) n ≡ false
  body_few k n h = grind (arith, not_more)

  tells : (k : BodyKind) (other figure : ℕ) → body_at k t ≡ bodies.Status other figure → end_length k ≤ length t
      → (other ≡ num t 12 4) × (figure ≡ num t 16 4) × (20 ≤ length t)
  tells k other figure e long = grind arith

  read_with : (k : Option BodyKind) → kind_of_code (slice_index t 8) ≡ k
      → any_end t (reading_with k t) ≡ Ok (messages.End e) → IsEndIn e t
  read_with k is h = grind (arith, nat_lt, body_few, moved_in, not_less, tells)

  read_so : any_end t (end_in t) ≡ Ok (messages.End e) → IsEndIn e t
  read_so h = grind (arith, nat_le, read_with)

sequential_so : (t : List ℕ) (e : End) → sequential_in t ≡ Ok (messages.End e) → IsEndIn e t
sequential_so t e h = by (nat_lt (length t) 12) refl h
  where
    low : (b c : Bool) → (is : nat_le 0x80 (slice_index t 8) ≡ b) → 12 ≤ length t
        → cond b (any_end t (end_in t)) (cond c (Ok (messages.Attention (slice_index t 8) (num t 4 2)))
        (Err faults.Unreadable)) ≡ Ok (messages.End e) → IsEndIn e t
    low true c is long h = read_so t e long (top_bit (slice_index t 8) is) h
    low false true is long h = search (arith, h)
    low false false is long h = search (arith, h)

    by : (b : Bool) → nat_lt (length t) 12 ≡ b
        → cond b (Err faults.Unreadable)
        (cond (nat_le 0x80 (slice_index t 8)) (any_end t (end_in t))
        (cond (nat_le 0x40 (slice_index t 8)) (Ok (messages.Attention (slice_index t 8) (num t 4 2)))
        (Err faults.Unreadable))) ≡ Ok (messages.End e)
        → IsEndIn e t
    by b is h = grind (arith, low, nat_le, t, not_less)

typed_so : (kind : ℕ) (t : List ℕ) (e : End) → typed_in kind t ≡ Ok (messages.End e) → IsEndIn e t
typed_so kind t e h = by (nat_eq kind 0) (nat_eq kind 1) (nat_eq kind 2) h
  where
    by : (a b c : Bool) → cond a (sequential_in t) (cond b (Ok messages.Datagram) (cond c (Ok messages.Credits)
        (Err faults.Kind))) ≡ Ok (messages.End e) → IsEndIn e t
    by true b c h = sequential_so t e h
    by false true c h = search (arith, h)
    by false false true h = search (arith, h)
    by false false false h = search (arith, h)

taken_byte : (n : ℕ) (b : List ℕ) (i : ℕ) → i < length (take n b) → slice_index (take n b) i ≡ slice_index b i
taken_byte n b i h = grind (arith, get_or-take, length-take)

-- the text behind an envelope
pub end_heard : (v : Envelope) (b : List ℕ) (e : End) → message_in v b ≡ Ok (messages.End e)
    → (v.connection ≡ 0) × (0x80 ≤ slice_index b 8) × (e.reference ≡ num b 0 4)
    × ((n : ℕ) → moved_in (kind_of_code (slice_index b 8)) (num b 12 4) ≤ n → is_too_much e.body n ≡ false)
end_heard v b e h = by (nat_lt (length b) v.length) (nat_eq v.connection 0) refl h
  where
    t : List ℕ
    t = take v.length b

    so : IsEndIn e (take v.length b) → (v.connection ≡ 0) → (v.connection ≡ 0) × (0x80 ≤ slice_index b 8)
        × (e.reference ≡ num b 0 4)
        × ((n : ℕ) → moved_in (kind_of_code (slice_index b 8)) (num b 12 4) ≤ n → is_too_much e.body n ≡ false)
    so x disk =
        let at : (i : ℕ) → i < 12 → slice_index (take v.length b) i ≡ slice_index b i =
        λ i low. taken_byte v.length b i (search (arith, low, x.long)) in
        let code = at 8 (search arith) in
        let number : num (take v.length b) 0 4 ≡ num b 0 4 =
        (λ j. 0 + at 0 (search arith) j * 1 + at 1 (search arith) j * 256 + at 2 (search arith) j * 65536
        + at 3 (search arith) j * 16777216) in (
          disk,
          subst (λ y. 0x80 ≤ y) code x.top,
          x.reference ∙ number,
          λ n few. x.moved n (counts (kind_of_code (slice_index (take v.length b) 8)) refl n
              (subst (λ y. moved_in (kind_of_code y) (num b 12 4) ≤ n) (sym code) few)),
        )
      where
        counts : (k : Option BodyKind) → kind_of_code (slice_index (take v.length b) 8) ≡ k → (n : ℕ)
            → moved_in (kind_of_code (slice_index (take v.length b) 8)) (num b 12 4) ≤ n
            → moved_in (kind_of_code (slice_index (take v.length b) 8)) (num (take v.length b) 12 4) ≤ n
        counts (Some bodykinds.Moved) is n few =
            let long = x.whole is in
            let at : (i : ℕ) → i < 32 → slice_index (take v.length b) i ≡ slice_index b i =
            λ i low. taken_byte v.length b i (search (arith, low, long)) in
            let same : num (take v.length b) 12 4 ≡ num b 12 4 =
            (λ j. 0 + at 12 (search arith) j * 1 + at 13 (search arith) j * 256 + at 14 (search arith) j * 65536
            + at 15 (search arith) j * 16777216) in
            subst (λ y. moved_in (kind_of_code (slice_index (take v.length b) 8)) y ≤ n) (sym same) few
        counts k is n few = subst (λ o. moved_in o (num (take v.length b) 12 4) ≤ n) (sym is) (search arith)

    by : (a c : Bool) → nat_eq v.connection 0 ≡ c
        → cond a (Err faults.Cut)
        (cond (not c) (Err faults.Connection)
        (typed_in v.kind (take v.length b))) ≡ Ok (messages.End e)
        → (v.connection ≡ 0) × (0x80 ≤ slice_index b 8) × (e.reference ≡ num b 0 4)
        × ((n : ℕ) → moved_in (kind_of_code (slice_index b 8)) (num b 12 4) ≤ n → is_too_much e.body n ≡ false)
    by true c is h = search (arith, h)
    by false false is h = search (arith, h)
    by false true is h = so (typed_so v.kind (take v.length b) e h)
        (Rattle.mscp_port.proofs.Common.eqb-true v.connection 0 is)

-- its code, and if it is that of a poll, the command that it is about and the figure that it tells
pub end_read : (v : Envelope) (b : List ℕ) (e : End) → message_in v b ≡ Ok (messages.End e)
    → (e.code ≡ slice_index b 8) × ((other figure : ℕ) → e.body ≡ bodies.Status other figure
    → (other ≡ num b 12 4) × (figure ≡ num b 16 4))
end_read v b e h = by (nat_lt (length b) v.length) (nat_eq v.connection 0) h
  where
    so : IsEndIn e (take v.length b) → (e.code ≡ slice_index b 8) × ((other figure : ℕ)
        → e.body ≡ bodies.Status other figure → (other ≡ num b 12 4) × (figure ≡ num b 16 4))
    so x = (
      x.code ∙ taken_byte v.length b 8 (search (arith, x.long)),
      λ other figure body.
          let y = x.told other figure body in
          let at : (i : ℕ) → i < 20 → slice_index (take v.length b) i ≡ slice_index b i =
          λ i low. taken_byte v.length b i (search (arith, low, y.2)) in (
            y.0 ∙ (λ j. 0 + at 12 (search arith) j * 1 + at 13 (search arith) j * 256
                + at 14 (search arith) j * 65536 + at 15 (search arith) j * 16777216),
            y.1 ∙ (λ j. 0 + at 16 (search arith) j * 1 + at 17 (search arith) j * 256
                + at 18 (search arith) j * 65536 + at 19 (search arith) j * 16777216),
          ),
    )

    by : (a c : Bool) → cond a (Err faults.Cut) (cond (not c) (Err faults.Connection)
        (typed_in v.kind (take v.length b))) ≡ Ok (messages.End e)
        → (e.code ≡ slice_index b 8) × ((other figure : ℕ) → e.body ≡ bodies.Status other figure
        → (other ≡ num b 12 4) × (figure ≡ num b 16 4))
    by true c h = absurd (search (arith, h))
    by false false h = absurd (search (arith, h))
    by false true h = so (typed_so v.kind (take v.length b) e h)

-- ---- what is read

-- what a port tells of this kind is read as a message
abbrev pub IsRead : OutgoingKind → List ℕ → Type 0
IsRead kinds.Attention text = (slice_index text 8 ≡ 0x40) × (12 ≤ length text) × (length text ≤ 64)
IsRead kinds.End text = IsWhole text
IsRead kinds.UtilitiesEnd text = ⊥

-- what is told as an end is read as one
abbrev IsSo : OutgoingKind → Message → Type 0
IsSo kinds.End (messages.End e) = Unit {0}
IsSo kinds.End m = ⊥
IsSo kind m = Unit {0}

abbrev pub IsMessage : OutgoingKind → Result Message HearFault → Type 0
IsMessage kind r = (m : Message) × (r ≡ Ok m) × IsSo kind m

at_least : (n m : ℕ) → n ≤ m → nat_le n m ≡ true
at_least n m h = search (arith, h)

whole_so : (t : List ℕ) → IsWhole t → IsMessage kinds.End (sequential_in t)
whole_so t w =
    subst (λ b. IsMessage kinds.End (cond b (Err faults.Unreadable) (cond (nat_le 0x80 (slice_index t 8)) (any_end t
    (end_in t))
    (cond (nat_le 0x40 (slice_index t 8)) (Ok (messages.Attention (slice_index t 8) (num t 4 2)))
    (Err faults.Unreadable))))) (sym (not_more (length t) 12 w.long))
    (subst (λ b. IsMessage kinds.End (cond b (any_end t (end_in t))
    (cond (nat_le 0x40 (slice_index t 8)) (Ok (messages.Attention (slice_index t 8) (num t 4 2)))
    (Err faults.Unreadable)))) (sym (at_least 0x80 (slice_index t 8) w.top))
    (subst (λ b. IsMessage kinds.End (any_end t (cond (b && nat_le (length t) 64) (reading_with (kind_of_code
    (slice_index t 8)) t)
    (Err endfaults.Length)))) (sym (at_least 12 (length t) w.long))
    (subst (λ b. IsMessage kinds.End (any_end t (cond b (reading_with (kind_of_code (slice_index t 8)) t)
    (Err endfaults.Length)))) (sym (at_least (length t) 64 w.short))
    (by (kind_of_code (slice_index t 8)) refl))))
  where
    by : (k : Option BodyKind) → kind_of_code (slice_index t 8) ≡ k → IsMessage kinds.End (any_end t (reading_with k t))
    by None is = (messages.End (bare_end t), refl, tt)
    by (Some k) is = subst (λ b. IsMessage kinds.End (any_end t (cond b (Err endfaults.Length) (Ok (end_at k t)))))
        (sym (not_more (length t) (end_length k) (w.body k is))) (messages.End (end_at k t), refl, tt)

news_so : (t : List ℕ) → slice_index t 8 ≡ 0x40 → 12 ≤ length t → IsMessage kinds.Attention (sequential_in t)
news_so t code long =
    subst (λ b. IsMessage kinds.Attention (cond b (Err faults.Unreadable) (cond (nat_le 0x80 (slice_index t 8))
    (any_end t (end_in t))
    (cond (nat_le 0x40 (slice_index t 8)) (Ok (messages.Attention (slice_index t 8) (num t 4 2)))
    (Err faults.Unreadable))))) (sym (not_more (length t) 12 long))
    (subst (λ c. IsMessage kinds.Attention (cond (nat_le 0x80 c) (any_end t (end_in t))
    (cond (nat_le 0x40 c) (Ok (messages.Attention (slice_index t 8) (num t 4 2)))
    (Err faults.Unreadable)))) (sym code) (messages.Attention (slice_index t 8) (num t 4 2), refl, tt))

sequential_read : (kind : OutgoingKind) (t : List ℕ) → IsRead kind t → IsMessage kind (sequential_in t)
sequential_read kind t r = grind (arith, news_so, whole_so)

-- behind its envelope
pub message_read : (kind : OutgoingKind) (t : List ℕ) (v : Envelope) → IsRead kind t → v.length ≡ length t
    → v.connection ≡ 0 → v.kind ≡ 0 → IsMessage kind (message_in v t)
message_read kind t v r size disk sequential = grind (arith, nat_lt, nat_eq, not_more, take_all, sequential_read)

-- and an end as one
pub is_end : (kind : OutgoingKind) (r : Result Message HearFault) → kind ≡ kinds.End → IsMessage kind r
    → (e : End) × (r ≡ Ok (messages.End e))
is_end kind r is x = grind arith
