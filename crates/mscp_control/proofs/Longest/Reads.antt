-- The READs of the run that is written out: they may be sent, and what is held of them.
use Rattle.mscp_control.proofs.Common.{◌≡◌, ℕ, zero, suc, ◌+◌, ◌-◌, ◌*◌, ◌<◌, ◌≤◌, ◌^◌, ◌/◌, Bool, false, List, [], ◌∷◌, ◌++◌, map, length, refl, ap, ◌∙◌, append-nil, arith, filter, max, nat_lt, if◌then◌else◌, AllByRecursion, range_with_len, le-ltb, lt-leb, ltb-false, ltb-true, ne_eqb, length-map, map-append, length-range_with_len, Shape, Connection, First, Record, fresh_record, passed_by, range_more, map_map, Transfer, Settings, IsValid, credits_of, room, room_of, of, holds, numbers, numbers_ended, waiting_on, connection_at, long_read, read_command, short_read, sides_length}
use Rattle.mscp_drive.specs.Extent as extent
use Rattle.mscp_control.proofs.Longest.Moments.{IsUnit, MaySend, nothing}

-- ---- one READ

-- its numbers fit, it takes as many steps as it has blocks, and it lies inside the unit
pub record IsRead (c : Settings) (s : Shape) (x : Transfer) : Type 0 where
  pub blocks : extent.blocks x.bytes ≡ x.blocks
  pub some : 1 ≤ x.blocks
  pub inside : x.first + x.blocks ≤ s.size
  pub short : x.blocks ≤ c.longest
  pub full : x.bytes ≤ 512 * x.blocks
  pub reference : x.reference < 2 ^ 32
  pub bytes : x.bytes < 2 ^ 32
  pub first : x.first < 2 ^ 32

-- its record, once it had so many steps and was passed by so many blocks
abbrev pub record_of : Shape → Transfer → ℕ → ℕ → Record
record_of s x j p = record {
  connection = x.connection;
  command = read_command s x;
  weight = x.blocks;
  done = j;
  good = j;
  passed = p;
}

weighs : (c : Settings) (s : Shape) (x : Transfer) → IsRead c s x → extent.weight x.bytes ≡ x.blocks
weighs c s x r = let some = r.some in ap (max 1) r.blocks ∙ omega (arith, some)

-- when it comes
pub record_fresh : (c : Settings) (s : Shape) (x : Transfer) → IsRead c s x
    → fresh_record x.connection (read_command s x) ≡ record_of s x 0 0
record_fresh c s x r = search (arith, weighs)

-- it may be sent where there are credits, and nothing of its number
pub may_send : (c : Settings) (s : Shape) (x : Transfer) (rs : List Record) → IsUnit c s → IsRead c s x
    → 2 ≤ credits_of c x.connection - (length (waiting_on x.connection rs) + length (of x.connection nothing))
    → holds (numbers (waiting_on x.connection rs) ++ numbers_ended (of x.connection nothing)) x.reference ≡ false
    → MaySend c rs nothing x.connection (read_command s x)
may_send c s x rs w r credit new = search (arith, weighs, lt-leb, le-ltb)

-- ---- the READs of the run

-- few may wait
room_few : (c : Settings) → IsValid c → room c ≤ 64
room_few c v = let few = v.few_credits in omega (arith, few)

pub long_is : (c : Settings) (s : Shape) (i : ℕ) → IsUnit c s → c.longest ≤ s.size → i < room c
    → IsRead c s (long_read c i)
long_is c s i w fits l = search (arith, room_few c w.valid)

pub short_is : (c : Settings) (s : Shape) → IsUnit c s → c.longest ≤ s.size → IsRead c s (short_read c)
short_is c s w fits = search (arith, room_few c w.valid)

-- ---- their records

-- a long one that had no step and was passed by so many blocks
abbrev pub long_record : Settings → Shape → ℕ → ℕ → Record
long_record c s p i = record_of s (long_read c i) 0 p

-- so many of them, from one on
abbrev pub longs : Settings → Shape → ℕ → ℕ → ℕ → List Record
longs c s p a k = map (long_record c s p) (range_with_len a k)

pub length_longs : (c : Settings) (s : Shape) (p a k : ℕ) → length (longs c s p a k) ≡ k
length_longs c s p a k = length-map (range_with_len a k) (long_record c s p) ∙ length-range_with_len a k

pub longs_more : (c : Settings) (s : Shape) (p i : ℕ)
    → longs c s p 0 (suc i) ≡ longs c s p 0 i ++ long_record c s p i ∷ []
longs_more c s p i = search (arith, range_more i, map-append (long_record c s p) (range_with_len 0 i) (i ∷ []))

-- once one more block has passed them
pub longs_passed : (c : Settings) (s : Shape) (p a k : ℕ) → map (passed_by 1) (longs c s p a k) ≡ longs c s (p + 1) a k
longs_passed c s p a k = map_map (long_record c s p) (passed_by 1) (range_with_len a k)

pub longs_idle : (c : Settings) (s : Shape) (p a k : ℕ) → AllByRecursion (λ r. r.done ≡ 0) (longs c s p a k)
longs_idle c s p a zero = tt
longs_idle c s p a (suc k) = (refl, longs_idle c s p (a + 1) k)

-- how many of them came by the first connection
on_first : (c : Settings) (s : Shape) (p a k : ℕ)
    → length (waiting_on First (longs c s p a k)) + (k - (room_of c First - a)) ≡ k
on_first c s p a zero = omega arith
on_first c s p a (suc k) = search (arith, on_first c s p (a + 1) k, ltb-true, ltb-false)

-- none of them has a later number
unheld : (c : Settings) (s : Shape) (q : Record → Bool) (p a k n : ℕ) → a + k ≤ n
    → holds (numbers (filter q (longs c s p a k))) n ≡ false
unheld c s q p a zero n h = refl
unheld c s q p a (suc k) n h = search (arith, unheld c s q p (a + 1) k n (omega (arith, h)), ne_eqb)

none_of : (via : Connection) → of via nothing ≡ []
none_of via = grind arith

-- a long one may be sent, where those before it wait
pub long_sent : (c : Settings) (s : Shape) (i : ℕ) → IsUnit c s → c.longest ≤ s.size → i < room c
    → MaySend c (longs c s 0 0 i) nothing (connection_at c i) (read_command s (long_read c i))
long_sent c s i w fits l =
    let rs = longs c s 0 0 i in
    let first = on_first c s 0 0 i in
    let all = length_longs c s 0 0 i in
    let sides = sides_length (λ (r : Record). r.connection) rs in
    search (arith, Bool, nat_lt, ltb-true, ltb-false, may_send, long_is, none_of, append-nil, unheld)

-- a short one may be sent, where all long ones but the first wait
pub short_sent : (c : Settings) (s : Shape) (p : ℕ) → IsUnit c s → c.longest ≤ s.size
    → MaySend c (longs c s p 1 (room c - 1)) nothing First (read_command s (short_read c))
short_sent c s p w fits =
    search (arith, on_first c s p 1 (room c - 1), short_is c s w fits, may_send, none_of, append-nil, unheld)
