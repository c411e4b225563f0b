-- Lines that end with a line feed.
use Rattle.mscp_judge.proofs.Common.{◌≡◌, ◌≢◌, inl, inr, ℕ, ◌+◌, ◌<◌, List, [], ◌∷◌, ◌++◌, drop, get_or, take, length, refl, ap, sym, ◌∙◌, arith, length-append, append_assoc, append-nil, codes, Option, Some, None, Result, Ok, Err, AllByRecursion, flat_map, decimal, get_or-append_seam, take-append_seam, cut_at, encode_lower, ArrayVec, Connection, Report, Idle, Served, Entry, SendFault, Sent, line, aborted_part, block_word, connection_word, ended_part, entry_lines, figure_line, message_line, refusal_word, step_line, take_line, BeginsWith, EndsLine}
use Rattle.mscp_controller.specs.declared.entry.Entry.TheVariants as entries
use Rattle.mscp_controller.specs.declared.entry.Sent.TheVariants as sents

-- no byte is a line feed
abbrev pub NoFeed : List ℕ → Type 0
NoFeed bytes = AllByRecursion (λ b. b ≢ 10) bytes

heads : (a b : ℕ) (xs ys : List ℕ) → a ∷ xs ≡ b ∷ ys → a ≡ b
heads a b xs ys e = cc

tails : (a b : ℕ) (xs ys : List ℕ) → a ∷ xs ≡ b ∷ ys → xs ≡ ys
tails a b xs ys e = cc

pub some_none : (xs : List ℕ) (b : ℕ) (ys : List ℕ) → xs ++ b ∷ ys ≡ [] → ⊥
some_none xs b ys e = omega (arith, length-append xs (b ∷ ys), ap length e)

-- Where bytes that end with a line feed go on as a line does, they begin with it.
pub first_line : (a X front Y : List ℕ) → NoFeed a → a ++ 10 ∷ X ≡ (front ++ 10 ∷ []) ++ Y
    → BeginsWith (front ++ 10 ∷ []) a
first_line [] X [] Y n h = ([], refl)
first_line [] X (f ∷ front) Y n h = search (arith, heads 10 f X ((front ++ 10 ∷ []) ++ Y) h)
first_line (b ∷ a) X [] Y n h = absurd (n.0 (heads b 10 (a ++ 10 ∷ X) Y h))
first_line (b ∷ a) X (f ∷ front) Y n h = search (arith, heads, tails, first_line a X front Y n.1)

-- A line begins with what has no line feed.
pub front_of : (a X head Y : List ℕ) → NoFeed head → a ++ 10 ∷ X ≡ head ++ Y → (rest : List ℕ) × (a ≡ head ++ rest)
front_of a X [] Y n h = (a, refl)
front_of [] X (f ∷ head) Y n h = absurd (n.0 (sym (heads 10 f X (head ++ Y) h)))
front_of (b ∷ a) X (f ∷ head) Y n h = search (arith, heads, tails, front_of a X head Y n.1)

-- What stands behind a line feed ends with one, if the whole does.
behind_feed : (a rest front : List ℕ) → a ++ 10 ∷ rest ≡ front ++ 10 ∷ [] → EndsLine rest
behind_feed [] rest [] h = inl (tails 10 10 rest [] h)
behind_feed [] rest (f ∷ front) h = inr (front, tails 10 f rest (front ++ 10 ∷ []) h)
behind_feed (b ∷ a) rest [] h = absurd (some_none a 10 rest (tails b 10 (a ++ 10 ∷ rest) [] h))
behind_feed (b ∷ a) rest (f ∷ front) h = behind_feed a rest front (tails b f (a ++ 10 ∷ rest) (front ++ 10 ∷ []) h)

pub ends_behind : (due line rest : List ℕ) → EndsLine due → due ≡ line ++ 10 ∷ rest → EndsLine rest
ends_behind due line rest h3 h4 = grind (arith, some_none, behind_feed)

-- ---- the lines of an entry

-- what stands in front of bytes that end with a line feed
abbrev pub Fed : List ℕ → Type 0
Fed bytes = (front : List ℕ) × (bytes ≡ front ++ 10 ∷ [])

behind_word : (word bytes : List ℕ) → Fed bytes → Fed (word ++ bytes)
behind_word word bytes f = (word ++ f.0, ap (λ xs. word ++ xs) f.1 ∙ sym (append_assoc word f.0 (10 ∷ [])))

ends_both : (xs ys : List ℕ) → EndsLine xs → EndsLine ys → EndsLine (xs ++ ys)
ends_both xs ys h2 h3 = grind (arith, append-nil, behind_word)

fed_figure : (shown : Connection × ℕ × ℕ) → Fed (figure_line shown)
fed_figure shown = behind_word (connection_word shown.0)
    (line (codes "figure " ++ decimal shown.1 ++ codes " " ++ decimal shown.2))
    (codes "figure " ++ decimal shown.1 ++ codes " " ++ decimal shown.2, refl)

ends_figures : (shown : List (Connection × ℕ × ℕ)) → EndsLine (flat_map figure_line shown)
ends_figures [] = inl refl
ends_figures (x ∷ xs) = ends_both (figure_line x) (flat_map figure_line xs) (inr (fed_figure x)) (ends_figures xs)

-- a step has a line
pub step_ends : (report : Report) → Fed (step_line report)
step_ends Idle = (codes "idle", refl)
step_ends (Served connection reference unit lbn started seek ended) =
    let words = codes "serve " ++ decimal reference ++ codes " unit " ++ decimal unit ++ codes " block "
    ++ block_word lbn ++ codes " seek " ++ decimal seek ++ ended_part ended in
    behind_word (connection_word connection) (line words) (words, refl)

fed_message : (sent : Result Sent SendFault) → Fed (message_line sent)
fed_message (Ok (sents.Queued reference)) = (codes "queued " ++ decimal reference, refl)
fed_message (Ok (sents.Answered reference aborted)) =
    (codes "answered " ++ decimal reference ++ aborted_part aborted, refl)
fed_message (Err fault) = (codes "refused " ++ refusal_word fault, refl)

fed_taken : (end : Option (ArrayVec ℕ)) → Fed (take_line end)
fed_taken (Some bytes) = (codes "end " ++ encode_lower bytes.items, refl)
fed_taken None = (codes "none", refl)

pub entry_ends : (entry : Entry) → EndsLine (entry_lines entry)
entry_ends (entries.Sent via sent) = inr (behind_word (connection_word via) (message_line sent) (fed_message sent))
entry_ends entry = grind (arith, step_ends, behind_word, fed_taken, ends_figures)

-- ---- how a line is compared

pub line_begins : (bytes line : List ℕ) → length line < length bytes → get_or bytes (length line) 0 ≡ 10
    → take (length line) bytes ≡ line → BeginsWith bytes line
line_begins bytes line l e f =
    let n = length line in
    let rest = drop (n + 1) bytes in
    (rest, cut_at 0 bytes n l ∙ (λ i. f i ++ e i ∷ rest))

pub begins_line : (bytes line : List ℕ) → BeginsWith bytes line
    → (length line < length bytes) × (get_or bytes (length line) 0 ≡ 10) × (take (length line) bytes ≡ line)
begins_line bytes line b = grind (arith, length-append, get_or-append_seam, take-append_seam)

-- the first line is what stands before the first line feed
pub first_is : (bytes line : List ℕ) (i : ℕ) → i < length bytes → line ≡ take i bytes → get_or bytes i 0 ≡ 10
    → BeginsWith bytes line
first_is bytes line i l e f = (drop (i + 1) bytes, cut_at 0 bytes i l ∙ (λ j. sym e j ++ f j ∷ drop (i + 1) bytes))
