-- What a port knows that its host has named, and how that stays known.
use Rattle.mscp_ported.proofs.Common.{◌≡◌, ◌⊎◌, ℕ, List, [], ◌∷◌, Option, None, Some, Contains, IfSome, refl, ap, sym, subst, arith, Contains-append_left, Contains-append_right, Contains-push, Buffer, Port, Words, Stage, Dies, HasInOrder, NamesArea, NamesBuffer, NamesPacket, IsAsNew, in_hand}
use Rattle.mscp_port.specs.declared.stage.Stage.TheVariants as stages
use Rattle.mscp_port.specs.declared.task.Task.TheVariants as tasks
use Rattle.mscp_port.proofs.Among.{none_among}

-- the words of the steps that were taken since, the last one first
abbrev pub answers : Stage → Words → List ℕ
answers stages.Second w = w.first ∷ []
answers stages.Third w = w.second ∷ w.first ∷ []
answers stage w = []

-- what a port knows its host has named, by the words that it wrote and the bytes that were read
pub record Knows {K : Type 0} (ws : List ℕ) (bs : List (List ℕ)) (p : Port K) : Type 0 where
  pub taken : HasInOrder (answers p.stage p.words) ws
  pub given : IfSome p.written (λ word. HasInOrder (word ∷ answers p.stage p.words) ws)
  pub area : IfSome p.rings (λ r. NamesArea ws r)
  pub packet : IfSome (in_hand p.task) (λ word. NamesPacket bs word)
  pub buffer : (b : Buffer) → Contains p.buffers.items b → NamesBuffer bs b

-- ---- lists

-- what stands in a list stands behind one more
pub in_order_behind : (xs ys : List ℕ) (y : ℕ) → HasInOrder xs ys → HasInOrder xs (y ∷ ys)
in_order_behind [] ys y h = tt
in_order_behind (x ∷ xs) ys y h = (y ∷ h.0, h.1, ap (λ zs. y ∷ zs) h.2, h.3)

-- with one more in front of both
pub in_order_more : (xs ys : List ℕ) (y : ℕ) → HasInOrder xs ys → HasInOrder (y ∷ xs) (y ∷ ys)
in_order_more xs ys y h = ([], ys, refl, h)

-- the first of what stands there
pub first_in_order : (x : ℕ) (xs ys : List ℕ) → HasInOrder (x ∷ xs) ys → HasInOrder (x ∷ []) ys
first_in_order x xs ys h = (h.0, h.1, h.2, tt)

-- what is there by an equation
pub if_none : {X : Type 0} (o : Option X) (P : X → Type 0) → o ≡ None → IfSome o P
if_none o P e = subst (λ q. IfSome q P) (sym e) tt

pub if_same : {X : Type 0} (o before : Option X) (P : X → Type 0) → o ≡ before → IfSome before P → IfSome o P
if_same o before P e h = subst (λ q. IfSome q P) (sym e) h

-- what holds of what was there before holds of what is there, if it is that
pub carried : (o before : Option ℕ) (P : ℕ → Type 0) → IfSome o (λ w. before ≡ Some w) → IfSome before P → IfSome o P
carried o before P h3 h4 = grind arith

pub weakened : {X : Type 0} (o : Option X) (P Q : X → Type 0) → ((x : X) → P x → Q x) → IfSome o P → IfSome o Q
weakened o P Q h3 h4 = grind arith

-- ---- what stays known

-- what is known once the host has said nothing, or all that it said is forgotten
pub fresh_knows : {K : Type 0} (ws : List ℕ) (bs : List (List ℕ)) (p : Port K) → answers p.stage p.words ≡ []
    → p.written ≡ None → p.rings ≡ None → p.task ≡ tasks.Free → p.buffers.items ≡ [] → Knows ws bs p
fresh_knows ws bs p taken written rings task buffers = search (arith, if_none, none_among)

-- after a reset or a fatal error
pub new_knows : {K : Type 0} (ws : List ℕ) (bs : List (List ℕ)) (s : Stage) (old new : Port K)
    → ((w : Words) → answers s w ≡ []) → IsAsNew s old new → Knows ws bs new
new_knows ws bs s old new none n = search (arith, fresh_knows)

pub dead_knows : {K : Type 0} (ws : List ℕ) (bs : List (List ℕ)) (old new : Port K) → Dies old new → Knows ws bs new
dead_knows ws bs old new d = new_knows ws bs (stages.Dead d.0) old new (λ w. refl) d.1

-- the steps that were taken are those from before, or are forgotten; and of the rest nothing changes
pub record Stands {K : Type 0} (old new : Port K) : Type 0 where
  pub taken : (answers new.stage new.words ≡ answers old.stage old.words) ⊎ (answers new.stage new.words ≡ [])
  pub given : new.written ≡ old.written
  pub area : new.rings ≡ old.rings

-- the packet in hand, and the buffers, were named
pub record Handles {K : Type 0} (bs : List (List ℕ)) (p : Port K) : Type 0 where
  pub packet : IfSome (in_hand p.task) (λ word. NamesPacket bs word)
  pub buffer : (b : Buffer) → Contains p.buffers.items b → NamesBuffer bs b

pub still_taken : {K : Type 0} (ws : List ℕ) (bs : List (List ℕ)) (old new : Port K) → Knows ws bs old → Stands old new
    → HasInOrder (answers new.stage new.words) ws
still_taken ws bs old new k s = search arith

pub still_given : {K : Type 0} (ws : List ℕ) (bs : List (List ℕ)) (old new : Port K) → Knows ws bs old → Stands old new
    → IfSome new.written (λ word. HasInOrder (word ∷ answers new.stage new.words) ws)
still_given ws bs old new k s = search (arith, if_same, weakened, first_in_order)

pub still_knows : {K : Type 0} (ws : List ℕ) (bs more : List (List ℕ)) (old new : Port K) → Knows ws bs old
    → Stands old new → Handles more new → Knows ws more new
still_knows ws bs more old new k s h =
    search (arith, still_taken ws bs old new k s, still_given ws bs old new k s, if_same)

-- what is known by one word more
pub knows_more_words : {K : Type 0} (ws : List ℕ) (bs : List (List ℕ)) (p : Port K) (word : ℕ) → Knows ws bs p
    → Knows (word ∷ ws) bs p
knows_more_words ws bs p word k = record {
  taken = in_order_behind (answers p.stage p.words) ws word k.taken;
  given = weakened p.written (λ w. HasInOrder (w ∷ answers p.stage p.words) ws)
      (λ w. HasInOrder (w ∷ answers p.stage p.words) (word ∷ ws))
      (λ w h. in_order_behind (w ∷ answers p.stage p.words) ws word h) k.given;
  area = weakened p.rings (λ r. NamesArea ws r) (λ r. NamesArea (word ∷ ws) r)
      (λ r n. (n.0, n.1, n.2, in_order_behind (n.2 ∷ n.1 ∷ n.0 ∷ []) ws word n.3, n.4)) k.area;
  packet = k.packet;
  buffer = k.buffer;
}

-- what is named by what was read is named once more is read
pub there : {X : Type 0} (y x : X) (xs : List X) → Contains xs x → Contains (y ∷ xs) x
there y x xs h = Contains-append_right (y ∷ []) xs x h

pub here : {X : Type 0} (x : X) (xs : List X) → Contains (x ∷ xs) x
here x xs = Contains-append_left (x ∷ []) xs x (Contains-push [] x)

pub packet_named_still : (bytes : List ℕ) (bs : List (List ℕ)) (word : ℕ) → NamesPacket bs word
    → NamesPacket (bytes ∷ bs) word
packet_named_still bytes bs word n = (n.0, there bytes n.0 bs n.1, n.2, n.3)

pub buffer_named_still : (bytes : List ℕ) (bs : List (List ℕ)) (b : Buffer) → NamesBuffer bs b
    → NamesBuffer (bytes ∷ bs) b
buffer_named_still bytes bs b n = (n.0, n.1, there bytes n.0 bs n.2, n.3)
