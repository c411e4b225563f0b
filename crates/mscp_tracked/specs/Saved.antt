-- The bytes that a tracked controller is saved as, and what bytes say: those of its controller, and behind them the
-- cookies of the waiting commands and of each connection's ends, and the serial given last, each as 8 bytes.
use Rattle.std.specs.Prelude.{ℕ, ◌+◌, ◌*◌, nat_eq, nat_lt, if◌then◌else◌, List, ◌++◌, length, drop, take, flat_map, Result, Ok, Err}
use Rattle.byteorder.specs.Endian.{little_bytes}
use Rattle.mscp_packet.specs.Number.{num}
use Rattle.mscp_controller.specs.Holdings.{Holdings}
use Rattle.mscp_saved.specs.Read.{parts_in}
use Rattle.mscp_saved.specs.Restored as saved
use Rattle.mscp_saved.specs.Saved as saving
use Rattle.mscp_saved.specs.declared.fault.RestoreFault.{RestoreFault}
use Rattle.mscp_saved.specs.declared.fault.RestoreFault.TheVariants as faults
use Rattle.mscp_tracked.specs.Trackings.{Tracking}

-- numbers of 8 bytes
abbrev pub words_bytes : List ℕ → List ℕ
words_bytes words = flat_map (little_bytes 8) words

-- what stands behind the controller
abbrev pub rest_bytes : {K : Type 0} → Tracking K → List ℕ
rest_bytes t =
    words_bytes t.cookies.waiting
    ++ (words_bytes t.cookies.untaken.first
    ++ (words_bytes t.cookies.untaken.second
    ++ little_bytes 8 t.beginnings))

-- all, where the picker has this number
abbrev pub saved_bytes : {K : Type 0} → ℕ → Tracking K → List ℕ
saved_bytes number t = saving.saved_bytes number t.controller ++ rest_bytes t

-- ---- what bytes say

-- how many bytes the controller takes, as its head tells
abbrev pub own_length : List ℕ → ℕ
own_length b = num b 8 4

-- the number in 8 bytes
abbrev pub word_in : List ℕ → ℕ
word_in b = num b 0 8

-- so many of them
abbrev pub words_in : ℕ → List ℕ → List ℕ
words_in count b = parts_in word_in 8 count b

-- what stands behind so many
abbrev pub behind : ℕ → List ℕ → List ℕ
behind count b = drop (8 * count) b

-- how many cookies a controller has
abbrev pub cookie_count : {K : Type 0} → Holdings K → ℕ
cookie_count h = length h.waiting + (length h.untaken.first + length h.untaken.second)

-- what is said of a tracked controller over this one
abbrev pub tracking_in : {K : Type 0} → Holdings K → List ℕ → Tracking K
tracking_in h b = record {
  controller = h;
  cookies = record {
    waiting = words_in (length h.waiting) b;
    untaken = record {
      first = words_in (length h.untaken.first) (behind (length h.waiting) b);
      second = words_in (length h.untaken.second) (behind (length h.untaken.first) (behind (length h.waiting) b));
    };
  };
  beginnings =
      word_in (behind (length h.untaken.second) (behind (length h.untaken.first) (behind (length h.waiting) b)));
}

-- what comes of bytes behind this controller, or why it is none
abbrev pub resumed : {K : Type 0} → List ℕ → Result (Holdings K) RestoreFault → Result (Tracking K) RestoreFault
resumed b (Err fault) = Err fault
resumed b (Ok h) = if nat_eq (length b) (8 * (cookie_count h + 1)) then Ok (tracking_in h b) else Err faults.Length

-- what comes of bytes for a picker of this number: the tracked controller that they say, or why there is none
abbrev pub restored : {K : Type 0} → ℕ → K → List ℕ → Result (Tracking K) RestoreFault
restored number picker b =
    if nat_lt (length b) 12 then Err faults.Length
    else resumed (drop (own_length b) b) (saved.restored number picker (take (own_length b) b))
