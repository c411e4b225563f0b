-- An end that is heard.
use Rattle.mscp_host.proofs.Common.{arith, ◌≡◌, ℕ, List, true, false, refl, find, Result, Some, Ok, Err, End, EndFault, Submission, Account, answered, end_in, has_reference, heard, is_about_polled, is_code_of, may_end, news_with, or_unreadable, received}
use Rattle.mscp_host.specs.declared.news.HostFault.TheVariants as faults

pub readable : (r : Result End EndFault) (e : End) → or_unreadable r ≡ Ok e → r ≡ Ok e
readable r e h1 = search arith

pub heard_ok : (a : Account) (b : List ℕ) (e : End) (s : Submission) → end_in b ≡ Ok e
    → find (has_reference e.reference) a.outstanding ≡ Some s
    → is_code_of e.code s.opcode ≡ true → is_about_polled a.watch (answered a.watch e) ≡ true
    → heard a b ≡ (Ok (news_with a e (answered a.watch e)), received a e)
heard_ok a b e s read found code about = rw (read, found, code, about) refl

pub heard_other : (a : Account) (b : List ℕ) (e : End) (s : Submission) → end_in b ≡ Ok e
    → find (has_reference e.reference) a.outstanding ≡ Some s → may_end a e s ≡ false
    → heard a b ≡ (Err faults.Unknown, a)
heard_other a b e s read found never = rw (read, found, never) refl
