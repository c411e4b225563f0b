-- A packet is written, and slots are given back.
use Rattle.mscp_ported.proofs.Common.{Choice, Commands, Descriptor, GivesBack, IsAsNew, IsOfBlock, IsSomeAnd, List, MatchOption, Message, None, Ok, Option, Outcome, Outgoing, OutgoingKind, Packet, Port, Read, Responses, Rings, Said, Side, Slot, Some, StandInOrder, Taken, Talk, Tells, Turn, Went, Wish, Written, [], address_in, ap, append-nil, arith, begins, connection_of, connection_told, credits_by, credits_in, credits_with, given_turn, hears_of, inl, inr, is_owned, left_after, length, length-append, length-map, map, map-append, message_slot, message_text, mod-add-mod, none-some, packet_of, packet_slot, refl, said_in, subst, sym, text_of, true, written, ℕ, ◌%◌, ◌++◌, ◌+◌, ◌-◌, ◌∙◌, ◌∷◌, ◌≡◌}
use Rattle.mscp_port.specs.declared.action.Action.TheVariants as actions
use Rattle.mscp_port.specs.declared.port.OutgoingKind.TheVariants as kinds
use Rattle.mscp_port.specs.declared.stage.Stage.TheVariants as stages
use Rattle.mscp_port.specs.declared.task.Task.TheVariants as tasks
use Rattle.mscp_ported.specs.Talk.{done_by}
use Rattle.mscp_ported.proofs.After.{After, same_stage}
use Rattle.mscp_ported.proofs.Look.{AreTold, Fits, HasLeft, IsAsked, IsClear, IsOfRings, IsOwned, IsPacketOut, IsTelling, Look, NeedsOut, in_hand, left_all, left_quiet, look, quiet_left, slot_at}
use Rattle.mscp_ported.proofs.Deeds.{done_or_not}
use Rattle.mscp_ported.proofs.Hearing.{up_step}
use Rattle.mscp_ported.proofs.Counting.{slots_so, address_mod, left_more, one_more, tell_more}
use Rattle.mscp_ported.proofs.Acting.{IsReported, alive, dead_so, goes_on, quiet_of, same_said, told_so, up_of, write_one}

-- ---- packets

connection_so : (kind : OutgoingKind) → connection_of kind ≡ connection_told kind
connection_so kinds.Attention = refl
connection_so kind = refl

credits_so : (untold : ℕ) (kind : OutgoingKind) → credits_by untold kind ≡ credits_in untold kind
credits_so untold kinds.Attention = refl
credits_so untold kind = refl

-- the packet of what goes out says it
packet_tells : (slot : Slot) (address untold : ℕ) (bytes : List ℕ) (o : Outgoing)
    → address ≡ text_of slot.word - 4 → bytes ≡ packet_of (credits_by untold o.kind) o.kind o.bytes.items
    → Tells untold (record { slot = slot; address = address; bytes = bytes }) (said_in o)
packet_tells slot address untold bytes o place is = grind (arith, connection_so, credits_so)

-- and what isn't told then
left_so : (untold : ℕ) (kind : OutgoingKind) → untold - (credits_by untold kind - 1) ≡ left_after untold kind
left_so untold kinds.Attention = search arith
left_so untold kind = search arith

module _ {K : Type 0} {picks : List Choice → ℕ → Type 0} {old new : Port K} {t : Talk} {w : Wish} {outcome : Outcome}
    {done : Unit} {said : List Said} {texts : List (List ℕ)}
    (going : IsReported picks old new t w outcome done said texts) where
  open going use {step as k, goes as r}

  abbrev So : Type 0
  So = After (Went outcome (Ok done)) old (look new) t (Some w) None said texts

  -- ---- slots

  pub packet_so : (slot : Descriptor) → old.task ≡ tasks.Packet slot → So
  packet_so slot at = elim (done_or_not outcome) [
    | inl is ↦ done_so (old.untold - (credits_with old.untold old.outgoing - 1)) refl
        (ap look (((r.acts refl).packet slot at).done is))
    | inr never ↦ dead_so going 2 (((r.acts refl).packet slot at).missing never)
  ]
    where
      s : Slot
      s = slot_at (look old) Responses slot.word

      asked : ((count : ℕ) × (w.action ≡ actions.Write (text_of slot.word - 4) count)) × IsPacketOut (look old) w.bytes
      asked = subst (λ x. IsAsked (look old) x w) at k.hand.asked

      address : ℕ
      address = text_of slot.word - 4

      taken : t.turn ≡ Taken s
      taken = subst (λ x. Fits (look old) x t.turn) at k.hand.fits

      talk : done_by w.action w.bytes t ≡ record t { turn = Written s address w.bytes }
      talk = ap (λ a. done_by a w.bytes t) asked.0.1 ∙ ap (λ u. written address w.bytes u t) taken

      said_so : {u : ℕ} (o : Option Outgoing) → old.outgoing ≡ o → u ≡ old.untold - (credits_with old.untold o - 1)
          → IsSomeAnd o (λ x. w.bytes ≡ packet_of (credits_by old.untold x.kind) x.kind x.bytes.items)
          → (left : ℕ) → old.untold ≡ left
          → IsSomeAnd o (λ x. Tells left (record { slot = s; address = address; bytes = w.bytes }) (said_in x)
          × (u ≡ left_after left x.kind))
      said_so None out is h left e = h
      said_so {u} (Some x) out is h left e = grind (arith, s, address, packet_tells, left_so)

      tells_so : {u : ℕ} → u ≡ old.untold - (credits_with old.untold old.outgoing - 1)
          → AreTold old.more (tasks.Return Responses slot) (Written s address w.bytes) old.outgoing u t.told said
      tells_so is = grind (arith, left_all, left_quiet, quiet_of, s, address, said_so, asked)

      done_so : (u : ℕ) → u ≡ old.untold - (credits_with old.untold old.outgoing - 1)
          → look new ≡ record (look old) { untold = u; task = tasks.Return Responses slot } → So
      done_so u is e = goes_on going (record (look old) { untold = u; task = tasks.Return Responses slot })
          (record t { turn = Written s address w.bytes }) said e
          (alive going) (same_stage old.stage _ ∙ talk) (same_said going)
          (up_step (look old) t (Some w) said said texts texts old.responses old.commands (tasks.Return Responses slot)
          old.outgoing u (Written s address w.bytes) t.told t.heard k
          (up_of going (tasks.Packet slot) at tt) k.counts
          (address, w.bytes, refl) (subst (λ x. IsOwned x) taken k.hand.own)
          (λ h. k.speech.has (subst (λ x. NeedsOut x) (sym at) tt)) (λ h. h) (λ h. h) (tells_so is)
          (ap (λ x. map message_text t.heard ++ in_hand x t.turn) (sym at) ∙ k.hears))

  pub return_so : (side : Side) (slot : Descriptor) → old.task ≡ tasks.Return side slot → So
  return_so side slot at = by old.rings refl ((r.acts refl).gives_back side slot at)
    where
      hears_calm : (area : Rings) (side : Side) → (IsOfRings (hears_of area side slot) → Unit {0})
          × (NeedsOut (hears_of area side slot) → ⊥) × (IsClear (hears_of area side slot) → ⊥)
          × ((turn : Turn) → in_hand (hears_of area side slot) turn ≡ [])
      hears_calm area side = grind (arith, in_hand)

      hears_quiet : (area : Rings) (side : Side) → IsTelling (hears_of area side slot) → ⊥
      hears_quiet area side = grind arith

      hears_block : (area : Rings) (side : Side) → IsOfBlock (hears_of area side slot) → ⊥
      hears_block area side = grind arith

      -- what the host is to hear of it
      turn_so : (area : Rings) (s : Slot) → s.word ≡ slot.word → t.rings ≡ Some area → (l : Look)
          → Fits l (hears_of area s.side slot) (given_turn t.rings s) × IsOwned (given_turn t.rings s)
      turn_so area s word named l = grind (arith, slots_so)

      next_mod : (n m : ℕ) → n ≡ m % 256 → (n + 1) % 256 ≡ (m + 1) % 256
      next_mod n m e = ap (λ x. (x + 1) % 256) e ∙ mod-add-mod m 256 1

      counted_so : {A : Type 0} (n : ℕ) (xs : List A) (x : A) → n ≡ length xs % 256
          → (n + 1) % 256 ≡ length (xs ++ x ∷ []) % 256
      counted_so n xs x e = next_mod n (length xs) e ∙ ap (λ m. m % 256) (sym (length-append xs (x ∷ [])))

      place_so : {n : ℕ} (xs : List Slot) → length xs ≡ n → n ≡ 0 + length xs
      place_so xs e = search (arith, e)

      responses_so : (area : Rings) → old.rings ≡ Some area → old.task ≡ tasks.Return Responses slot
          → look new ≡ record (look old) {
            responses = (old.responses + 1) % 256;
            outgoing = None;
            task = hears_of area Responses slot;
          } → So
      responses_so area some at e =
          let was = subst (λ x. Fits (look old) x t.turn) at k.hand.fits in
          let own : is_owned slot.word ≡ true = subst (λ x. IsOwned x) was.2 k.hand.own in
          let packet : Packet = record { slot = s; address = was.0; bytes = was.1 } in
          let named : t.rings ≡ Some area = k.names.named_so ∙ some in
          let turn = turn_so area s refl named (record (look old) {
            responses = (old.responses + 1) % 256;
            outgoing = None;
            task = hears_of area Responses slot;
          }) in
          let calm = hears_calm area Responses in
          (goes_on going) (record (look old) {
            responses = (old.responses + 1) % 256;
            outgoing = None;
            task = hears_of area Responses slot;
          }) (record t { turn = given_turn t.rings s; told = t.told ++ packet ∷ [] }) said e
          (alive going) (same_stage old.stage _ ∙ (write_one going) (Written s was.0 was.1)
          (record t { turn = given_turn t.rings s; told = t.told ++ packet ∷ [] }) was.2
          (subst (λ x. IsAsked (look old) x w) at k.hand.asked) (λ address. refl))
          (gone_said old.outgoing)
          (up_step (look old) t (Some w) said said texts texts ((old.responses + 1) % 256) old.commands
          (hears_of area Responses slot) None old.untold (given_turn t.rings s) (t.told ++ packet ∷ []) t.heard k
          (up_of going (tasks.Return Responses slot) at tt) (record {
            told_so = counted_so old.responses t.told packet k.counts.told_so;
            heard_so = k.counts.heard_so;
            packets = subst (λ xs. StandInOrder old.rings Responses 0 xs)
                (sym (map-append packet_slot t.told (packet ∷ [])))
                (one_more old.rings Responses 0 (map packet_slot t.told) s k.counts.packets refl
                (ap (address_in old.rings Responses) k.counts.told_so
                ∙ address_mod old.rings Responses (length t.told) k.names.wide
                ∙ ap (address_in old.rings Responses) (place_so (map packet_slot t.told)
                (length-map t.told packet_slot))) own);
            messages = k.counts.messages;
            none = λ n. absurd (none-some area (sym n ∙ some));
          }) turn.0 turn.1 (λ h. absurd (calm.1 h)) calm.2 (hears_block area Responses)
          (tells_more was.2 old.outgoing refl k.speech.tells)
          (ap (λ xs. map message_text t.heard ++ xs)
          (calm.3 (given_turn t.rings s) ∙ sym (ap (λ x. in_hand x t.turn) at)) ∙ k.hears))
        where
          s : Slot
          s = slot_at (look old) Responses slot.word

          gone_said : (o : Option Outgoing) → said ++ map said_in (begins o None) ≡ said
          gone_said None = append-nil said
          gone_said (Some x) = append-nil said

          -- the packet that is told is that of what went out
          tells_more : {address : ℕ} {bytes : List ℕ} → t.turn ≡ Written s address bytes → (o : Option Outgoing)
              → old.outgoing ≡ o → AreTold old.more old.task t.turn o old.untold t.told said
              → AreTold old.more (hears_of area Responses slot) (given_turn t.rings s) None old.untold
              (t.told ++ record { slot = s; address = address; bytes = bytes } ∷ []) said
          tells_more {address} {bytes} turn None out h =
              absurd (subst (λ x. HasLeft x t.turn None old.untold (left_all old.more h.0)) at h.3).4
          tells_more {address} {bytes} turn (Some x) out h =
              let was = subst (λ y. HasLeft y t.turn (Some x) old.untold (left_all old.more h.0)) at h.3 in
              let same : Written was.0 was.1 was.2 ≡ Written s address bytes = sym was.3 ∙ turn in (
                h.0 ++ said_in x ∷ [],
                append-nil (h.0 ++ said_in x ∷ []) ∙ h.1,
                tell_more old.more t.told h.0 (record { slot = s; address = address; bytes = bytes }) (said_in x) h.2
                    (subst (λ p. Tells (left_all old.more h.0) p (said_in x)) (ap packet_in same) was.4.0),
                quiet_left (hears_of area Responses slot) (given_turn t.rings s) None old.untold
                    (left_all old.more (h.0 ++ said_in x ∷ [])) (hears_quiet area Responses)
                    (was.4.1 ∙ sym (left_more old.more h.0 (said_in x))),
              )
            where
              packet_in : Turn → Packet
              packet_in (Written at place bytes) = record { slot = at; address = place; bytes = bytes }
              packet_in turn = record { slot = s; address = 0; bytes = [] }

      commands_so : (area : Rings) → old.rings ≡ Some area → old.task ≡ tasks.Return Commands slot
          → look new ≡ record (look old) {
            commands = (old.commands + 1) % 256;
            task = hears_of area Commands slot;
          } → So
      commands_so area some at e =
          let was = subst (λ x. Fits (look old) x t.turn) at k.hand.fits in
          let own : is_owned slot.word ≡ true = subst (λ x. IsOwned x) was.2 k.hand.own in
          let message : Message = record { slot = s; header = was.0; text = was.1 } in
          let named : t.rings ≡ Some area = k.names.named_so ∙ some in
          let turn = turn_so area s refl named (record (look old) {
            commands = (old.commands + 1) % 256;
            task = hears_of area Commands slot;
          }) in
          let calm = hears_calm area Commands in
          (goes_on going) (record (look old) {
            commands = (old.commands + 1) % 256;
            task = hears_of area Commands slot;
          }) (record t { turn = given_turn t.rings s; heard = t.heard ++ message ∷ [] }) said e
          (alive going) (same_stage old.stage _ ∙ (write_one going) (Read s was.0 was.1)
          (record t { turn = given_turn t.rings s; heard = t.heard ++ message ∷ [] }) was.2
          (subst (λ x. IsAsked (look old) x w) at k.hand.asked) (λ address. refl))
          (same_said going)
          (up_step (look old) t (Some w) said said texts texts old.responses ((old.commands + 1) % 256)
          (hears_of area Commands slot) old.outgoing old.untold (given_turn t.rings s) t.told
          (t.heard ++ message ∷ []) k
          (up_of going (tasks.Return Commands slot) at tt) (record {
            told_so = k.counts.told_so;
            heard_so = counted_so old.commands t.heard message k.counts.heard_so;
            packets = k.counts.packets;
            messages = subst (λ xs. StandInOrder old.rings Commands 0 xs)
                (sym (map-append message_slot t.heard (message ∷ [])))
                (one_more old.rings Commands 0 (map message_slot t.heard) s k.counts.messages refl
                (ap (address_in old.rings Commands) k.counts.heard_so
                ∙ address_mod old.rings Commands (length t.heard) k.names.wide
                ∙ ap (address_in old.rings Commands) (place_so (map message_slot t.heard)
                (length-map t.heard message_slot))) own);
            none = λ n. absurd (none-some area (sym n ∙ some));
          }) turn.0 turn.1 (λ h. absurd (calm.1 h)) calm.2
          (hears_block area Commands) ((told_so going) (hears_of area Commands slot) (given_turn t.rings s)
          (quiet_of going (tasks.Return Commands slot) at (λ h. h)) (hears_quiet area Commands))
          (ap (λ xs. map message_text (t.heard ++ message ∷ []) ++ xs) (calm.3 (given_turn t.rings s))
          ∙ append-nil (map message_text (t.heard ++ message ∷ []))
          ∙ map-append message_text t.heard (message ∷ [])
          ∙ ap (λ x. map message_text t.heard ++ x) (sym (ap (in_hand old.task) was.2
          ∙ ap (λ x. in_hand x (Read s was.0 was.1)) at)) ∙ k.hears))
        where
          s : Slot
          s = slot_at (look old) Commands slot.word

      with_area : (side : Side) (area : Rings) → old.task ≡ tasks.Return side slot → old.rings ≡ Some area
          → GivesBack outcome area side slot old new → So
      with_area Responses area at some g = elim (done_or_not outcome) [
        | inl is ↦ responses_so area some at (ap look (g.done is))
        | inr never ↦ dead_so going 7 (g.missing never)
      ]
      with_area Commands area at some g = elim (done_or_not outcome) [
        | inl is ↦ commands_so area some at (ap look (g.done is))
        | inr never ↦ dead_so going 7 (g.missing never)
      ]

      by : (o : Option Rings) → old.rings ≡ o
          → MatchOption o (IsAsNew (stages.Dead 7) old new) (λ x. GivesBack outcome x side slot old new) → So
      by None e h = dead_so going 7 h
      by (Some area) e h = with_area side area at e h
