-- What begins to go out as a port answers a message itself.
use Rattle.mscp_logged.proofs.Common.{Answered, AnswersItself, Becomes, Bool, Call, Descriptor, End, Hardware, Hears, Holdings, IsAnswering, IsMadeOf, IsSomeAnd, IsWhole, List, None, Ok, Option, Outgoing, Own, Picking, Port, Some, WasRead, [], ap, arith, bytes_small, end_bytes, end_kind, ends_of, false, inl, inr, is_foreign, length, none-some, none_waits, num, own_answer, own_end_of, own_number, own_so, own_text, own_whole, refl, slice_index, subst, sym, volume_named, ℕ, ◌<◌, ◌^◌, ◌∙◌, ◌∷◌, ◌≡◌, ◌≤◌}
use Rattle.mscp_port.specs.declared.port.OutgoingKind.TheVariants as kinds
use Rattle.mscp_port.specs.declared.task.Task.TheVariants as tasks

-- it has the number of its message, is an end of the disk's just if that is for the disks, and is whole then
pub record IsOwn {K : Type 0} (old : Port K) (text : List ℕ) (o : Outgoing) : Type 0 where
  pub foreign : Bool
  pub task : is_foreign old.task ≡ foreign
  pub long : 12 ≤ length text
  pub kind : o.kind ≡ end_kind foreign
  pub own : (own : Own) × (own_answer foreign (volume_named old text) text ≡ Some own)
      × (o.bytes.items ≡ own_text text own)

module _ {K : Type 0} (bytes : List ℕ) (done : Unit) (old new : Port K) (r : Hears bytes old (Ok done) new)
    (o : Outgoing) (nothing : old.outgoing ≡ None) (begun : new.outgoing ≡ Some o) where
  by_text : (slot : Descriptor) (size : ℕ) (foreign : Bool) → old.task ≡ tasks.Text slot size foreign
      → AnswersItself foreign bytes old new → IsOwn old bytes o
  by_text slot size foreign at answers = by (own_end_of old foreign bytes) refl answers.out
    where
      by : (x : Option End) → own_end_of old foreign bytes ≡ x → IsSomeAnd x (λ e. IsSomeAnd new.outgoing
          (λ z. (z.bytes.items ≡ end_bytes e) × (z.kind ≡ end_kind foreign))) → IsOwn old bytes o
      by None e h = absurd h
      by (Some end) e h =
          let said = subst (λ q. IsSomeAnd q (λ z. (z.bytes.items ≡ end_bytes end)
          × (z.kind ≡ end_kind foreign))) begun h in
          let own = own_so foreign (volume_named old bytes) bytes end e in
          record {
            foreign = foreign;
            task = ap is_foreign at;
            long = ((r.sees refl).text slot size foreign at).long;
            kind = said.1;
            own = (own.0, own.1, said.0 ∙ own.2);
          }

  pub is_own : IsOwn old bytes o
  is_own = elim r.out [
    | inl same ↦ absurd (none-some o (sym (same ∙ nothing) ∙ begun))
    | inr more ↦ elim more [
      | inl t ↦ by_text t.0 t.1 t.2 t.3 t.4
      | inr d ↦ absurd (none-some o (sym d.1.outgoing ∙ begun))
    ]
  ]

pub answers_so : {K : Type 0} (picks : Picking K) (call : Call) (old new : Port K) → Becomes picks call old new
    → (d : IsAnswering call old new) → IsOwn old d.message d.out
answers_so picks (WasRead bytes (Ok done)) old new r d = rw (← bytes_read bytes d.message d.read.0 (d.read.1))
    (is_own bytes done old new r d.out d.nothing d.begun)
  where
    text_of : Call → List ℕ
    text_of (WasRead b x) = b
    text_of call = bytes

    bytes_read : (b m : List ℕ) (u : Unit) → WasRead bytes (Ok done) ≡ WasRead m (Ok u) → bytes ≡ m
    bytes_read b m u e = ap text_of e
answers_so picks call old new r d = absurd (search (arith, d.read.1))

-- while it is made no end of the controller's waits
pub none_left : {K : Type 0} (picks : Picking K) (hardware : Hardware) (credits : ℕ) (controller : Holdings K)
    (start : Port K) → IsMadeOf hardware credits controller start → (p : Port K) (call : Call) (calls : List Call)
    → (a : Answered picks start (call ∷ calls) p) → IsAnswering call a.0 p → ends_of a.0.controller ≡ []
none_left picks hardware credits controller start made p (WasRead bytes (Ok done)) calls a d = elim a.2.out [
  | inl same ↦ absurd (none-some d.out (sym (same ∙ d.nothing) ∙ d.begun))
  | inr more ↦ elim more [
    | inl t ↦ none_waits picks hardware credits controller start made a.0 calls a.1 t.0 t.1 t.2 t.3 d.nothing
    | inr dead ↦ absurd (none-some d.out (sym dead.1.outgoing ∙ d.begun))
  ]
]
none_left picks hardware credits controller start made p call calls a d = absurd (search (arith, d.read.1))

module _ {K : Type 0} (old : Port K) (text : List ℕ) (o : Outgoing) (is : IsOwn old text o) where
  pub own_named : ((i : ℕ) → slice_index text i < 2 ^ 8) → num o.bytes.items 0 4 ≡ num text 0 4
  own_named small = ap (λ b. num b 0 4) is.own.2 ∙ own_number text is.own.0 (bytes_small text small)

  -- the end of a message for the disks
  pub of_disk : o.kind ≡ kinds.End → is.foreign ≡ false
  of_disk kind = grind arith

  pub own_is_whole : o.kind ≡ kinds.End → IsWhole o.bytes.items
  own_is_whole kind = subst (λ b. IsWhole b) (sym is.own.2) (own_whole (volume_named old text) text is.own.0
      (ap (λ f. own_answer f (volume_named old text) text) (sym (of_disk kind)) ∙ is.own.1))
