-- What a host may be told fits what it keeps: by endcode, and that of a poll by the command that it is about.
use Rattle.mscp_port.specs.declared.port.OutgoingKind.TheVariants as kinds
use Rattle.mscp_heard.proofs.Claims.{Claim, claim_of, claim_said, claims, claims_said}
use Rattle.mscp_heard.proofs.Common.{AllByRecursion, Asked, Fits, IsCodeFor, IsCopyOf, List, OutgoingKind, PortAccount, Said, Some, [], ap, arith, eqb-true, every_append, every_kept, every_parts, filter, find, has_number, inr, is_about, is_code_of, is_of, is_poll_of, length, map, nat_eq, not, num, one_of, refl, slice_index, subst, sym, true, ℕ, ◌++◌, ◌+◌, ◌∙◌, ◌∷◌, ◌≡◌, ◌≢◌, ◌≤◌, ◌⊎◌}

-- ---- notes

-- an end of this number and code, about that command, fits what the host keeps; and so does that of a message, which
-- has so many bytes
pub record FitsAsked (host : PortAccount) (number endcode other size : ℕ) (x : Asked) : Type 0 where
  pub code : is_code_of endcode x.opcode ≡ true
  pub about : endcode ≡ 0x82 → is_poll_of host.account.watch number ≡ true
      → (16 ≤ size) × (is_about host.account.watch other ≡ true)

abbrev pub FitsNote : PortAccount → ℕ → ℕ → ℕ → ℕ → Type 0
FitsNote host number code about size =
    (x : Asked) → find (is_of number) host.asked ≡ Some x → FitsAsked host number code about size x

abbrev pub FitsText : PortAccount → List ℕ → Type 0
FitsText host t = FitsNote host (num t 0 4) (slice_index t 8 + 0x80) (num t 12 4) (length t)

abbrev pub FitsSaid : PortAccount → Said → Type 0
FitsSaid host s = s.kind ≡ kinds.End → FitsNote host (num s.text 0 4) (slice_index s.text 8) (num s.text 12 4) 16

-- what was said and not heard, what is awaited, and what was sent and not read
pub record Noted (host : PortAccount) (us : List Said) (ts ms : List (List ℕ)) : Type 0 where
  pub said : AllByRecursion (FitsSaid host) us
  pub texts : AllByRecursion (FitsText host) ts
  pub messages : AllByRecursion (FitsText host) ms

pub nothing_noted : (host : PortAccount) → Noted host [] [] []
nothing_noted host = record { said = tt; texts = tt; messages = tt }

-- ---- what the host keeps changes

module _ (host new : PortAccount) (Q : ℕ → Type 0)
    (keeps : (n code about size : ℕ) → Q n → FitsNote host n code about size → FitsNote new n code about size) where
  said_kept : (us : List Said) → AllByRecursion (λ (c : Claim). Q c.number) (claims_said us)
      → AllByRecursion (FitsSaid host) us → AllByRecursion (FitsSaid new) us
  said_kept [] q all = tt
  said_kept (s ∷ us) q all =
      let parts = every_parts (λ (c : Claim). Q c.number) (claim_said s.kind s.text) (claims_said us) q in
      (by s.kind refl parts.0, said_kept us parts.1 all.1)
    where
      by : (kind : OutgoingKind) → s.kind ≡ kind → AllByRecursion (λ (c : Claim). Q c.number) (claim_said s.kind s.text)
          → FitsSaid new s
      by kinds.End is own named = keeps (num s.text 0 4) (slice_index s.text 8) (num s.text 12 4) 16
          (subst (λ kind. AllByRecursion (λ (c : Claim). Q c.number) (claim_said kind s.text)) is own).0 (all.0 is)
      by kinds.Attention is own named = absurd (search (arith, sym is ∙ named))
      by kinds.UtilitiesEnd is own named = absurd (search (arith, sym is ∙ named))

  texts_kept : (ts : List (List ℕ)) → AllByRecursion (λ (c : Claim). Q c.number) (map claim_of ts)
      → AllByRecursion (FitsText host) ts → AllByRecursion (FitsText new) ts
  texts_kept [] q all = tt
  texts_kept (t ∷ ts) q all = (
    keeps (num t 0 4) (slice_index t 8 + 0x80) (num t 12 4) (length t) q.0 all.0,
    texts_kept ts q.1 all.1,
  )

  pub noted_kept : (us : List Said) (ts ms : List (List ℕ))
      → AllByRecursion (λ (c : Claim). Q c.number) (claims us ts ms) → Noted host us ts ms → Noted new us ts ms
  noted_kept us ts ms q noted =
      let parts = every_parts (λ (c : Claim). Q c.number) (claims_said us) (map claim_of ts ++ map claim_of ms) q in
      let rest = every_parts (λ (c : Claim). Q c.number) (map claim_of ts) (map claim_of ms) parts.1 in
      record {
        said = said_kept us parts.0 noted.said;
        texts = texts_kept ts rest.0 noted.texts;
        messages = texts_kept ms rest.1 noted.messages;
      }

code_or : (code : ℕ) (t : List ℕ) → IsCodeFor code t → (code ≡ 0x80) ⊎ (code ≡ slice_index t 8 + 0x80)
code_or code t h = grind arith

-- an end of that code fits as its message does
coded : (opcode code byte : ℕ) → (code ≡ 0x80) ⊎ (code ≡ byte + 0x80) → is_code_of (byte + 0x80) opcode ≡ true
    → is_code_of code opcode ≡ true
coded opcode code byte h is = grind (arith, nat_eq)

-- ---- by a call

module _ (host : PortAccount) (us : List Said) (ts : List (List ℕ)) where
  -- the next message is read: the controller takes it
  pub copy_taken : (t m : List ℕ) (ms : List (List ℕ)) → IsCopyOf t m → Noted host us ts (m ∷ ms)
      → Noted host us (ts ++ t ∷ []) ms
  copy_taken t m ms is noted = record {
    said = noted.said;
    texts = every_append (FitsText host) ts (t ∷ []) noted.texts (
      (λ x found.
          let f = noted.messages.0 x (ap (λ n. find (is_of n) host.asked) (sym is.number) ∙ found) in
          record {
            code = subst (λ n. is_code_of (n + 0x80) x.opcode ≡ true) (sym is.opcode) f.code;
            about = λ poll own.
                let a = f.about (ap (λ n. n + 0x80) (sym is.opcode) ∙ poll)
                (subst (λ n. is_poll_of host.account.watch n ≡ true) is.number own) in (
                  longer 16 (length m) (length t) a.0 is.long,
                  subst (λ n. is_about host.account.watch n ≡ true) (sym is.parameter) a.1,
                );
          }),
      tt,
    );
    messages = noted.messages.1;
  }
    where
      longer : (a b c : ℕ) → a ≤ b → b ≤ c → a ≤ c
      longer a b c h k = omega (arith, h, k)

  -- or the port answers it itself
  pub copy_answered : (s : Said) (t m : List ℕ) (ms : List (List ℕ)) → IsCopyOf t m → num s.text 0 4 ≡ num t 0 4
      → (slice_index s.text 8 ≡ 0x80) ⊎ (slice_index s.text 8 ≡ slice_index t 8 + 0x80)
      → slice_index s.text 8 ≢ 0x82 → Noted host us ts (m ∷ ms) → Noted host (us ++ s ∷ []) ts ms
  copy_answered s t m ms is named code never noted = grind (arith, every_append, coded)

  -- a message's end is said
  pub noted_end : (s : Said) (t : List ℕ) (ms : List (List ℕ)) → filter (has_number (num s.text 0 4)) ts ≡ t ∷ []
      → Fits s.text t → Noted host us ts ms
      → Noted host (us ++ s ∷ []) (filter (λ x. not (has_number (num s.text 0 4) x)) ts) ms
  noted_end s t ms only fits noted =
      let one = one_of (FitsText host) (has_number (num s.text 0 4)) ts t noted.texts only in
      let named : num t 0 4 ≡ num s.text 0 4 = eqb-true (num t 0 4) (num s.text 0 4) one.1 in
      record {
        said = every_append (FitsSaid host) us (s ∷ []) noted.said (
          (λ kind x found.
              let f = one.0 x (ap (λ n. find (is_of n) host.asked) named ∙ found) in
              record {
                code = coded x.opcode (slice_index s.text 8) (slice_index t 8)
                    (code_or (slice_index s.text 8) t fits.code)
                    f.code;
                about = λ poll own.
                    let a = f.about (message_poll (slice_index s.text 8) (slice_index t 8) poll
                    (code_or (slice_index s.text 8) t fits.code))
                    (subst (λ n. is_poll_of host.account.watch n ≡ true) (sym named) own) in (
                      search arith,
                      subst (λ n. is_about host.account.watch n ≡ true) (sym (fits.about (inr poll) a.0)) a.1,
                    );
              }),
          tt,
        );
        texts = every_kept (FitsText host) (λ x. not (has_number (num s.text 0 4) x)) ts noted.texts;
        messages = noted.messages;
      }
    where
      message_poll : (code byte : ℕ) → code ≡ 0x82 → (code ≡ 0x80) ⊎ (code ≡ byte + 0x80) → byte + 0x80 ≡ 0x82
      message_poll code byte poll h = grind arith

  -- news are
  pub noted_news : (s : Said) (ms : List (List ℕ)) → s.kind ≡ kinds.Attention → Noted host us ts ms
      → Noted host (us ++ s ∷ []) ts ms
  noted_news s ms kind noted = grind (arith, every_append)
