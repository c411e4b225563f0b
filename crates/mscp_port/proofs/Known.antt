-- What a port knows stays among what it knew.
use Rattle.mscp_port.proofs.Common.{Buffer, ChangesByActing, Choice, Connection, Contains, Descriptor, IfOk, IfSome, IsInBuffer, IsInSomeBuffer, KeepsSaying, List, None, Option, Port, Result, Says, Side, Some, StaysInStage, TakesEnd, Task, TellsNews, Verdict, ap, arith, get_or, in_hand, is_of, none-some, position, position-Some, sym, true, ℕ, ◌∙◌, ◌≡◌, ◌⊎◌}
use Rattle.mscp_port.specs.declared.task.Task.TheVariants as tasks

-- a descriptor that is in hand after is the one that was in hand before
pub held_on : (o before : Option ℕ) (w : ℕ) (Q : ℕ → Type 0) → before ≡ Some w → IfSome o (λ word. word ≡ w)
    → IfSome o (λ word. (before ≡ Some word) ⊎ Q word)
held_on o before w Q h4 h5 = grind arith

-- where nothing but the task in hand changes, only what may change by an action does
pub unsettled : {K : Type 0} (picks : List Choice → ℕ → Type 0) (old new : Port K)
    → new ≡ record old { task = tasks.Free }
    → ChangesByActing picks old new × StaysInStage old new
unsettled picks old new e = search arith

-- what goes out doesn't depend on what is in hand
keeps_on : {K : Type 0} (old new : Port K) (t : Task) → KeepsSaying old new → KeepsSaying old (record new { task = t })
keeps_on old new t k = search arith

looks_on : {K : Type 0} (old new : Port K) (t : Task) → TakesEnd old new ⊎ TellsNews old new
    → TakesEnd old (record new { task = t }) ⊎ TellsNews old (record new { task = t })
looks_on old new t either = search arith

pub said_on : {K : Type 0} (old new : Port K) (t : Task) → Says old new → Says old (record new { task = t })
said_on old new t says = search (arith, looks_on, keeps_on)

-- a port that changes nothing says what it said
pub keeps_the_same : {K : Type 0} (old new : Port K) → new ≡ old → KeepsSaying old new
keeps_the_same old new e = search arith

-- no slot is to be given back where none is in hand
pub none_returned : (t : Task) (side : Side) (slot : Descriptor) → in_hand t ≡ None → t ≡ tasks.Return side slot → ⊥
none_returned t side slot none e = none-some slot.word (sym none ∙ ap in_hand e)

-- a part of what is kept of a command lies in some buffer
pub part_within : {K : Type 0} (p : Port K) (bs : List Buffer) (kept : Option Buffer) (b : Buffer)
    (r : Result (ℕ × ℕ) Verdict) → bs ≡ p.buffers.items → kept ≡ Some b → IfSome kept (λ d. Contains bs d)
    → IfOk r (λ part. IsInBuffer b part.0 part.1) → IfOk r (λ part. IsInSomeBuffer p part.0 part.1)
part_within p bs kept b r all is there inside = search arith

-- what is at the place of what is kept of a command is that
pub of_command : (via : Connection) (reference : ℕ) (bs : List Buffer) (place : ℕ) (d : Buffer)
    → position (is_of via reference) bs ≡ Some place → is_of via reference (get_or bs place d) ≡ true
of_command via reference bs place d e = (position-Some (is_of via reference) bs place d e).1
