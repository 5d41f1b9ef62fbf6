-- The test of `Fits` decides it, and a match is mutual.
use Rattle.std.proofs.Common.{◌≡◌, ◌⊎◌, ℤ, pos, negsuc, Bool, true, false, ◌&&◌, ◌==◌, not, cond, refl}
use Rattle.std.specs.Prelude.{IsTrue, ◌↔◌}
use Rattle.std.specs.Ordering.{int_eq}
use Rattle.std.specs.Bool.{Decides}
use Rattle.std.proofs.lemmas.Bool.Decides.{Decides-int_eq, Decides-eqb, Decides-and, Decides-or, Decides-like}
use Rattle.mpi_queue.specs.declared.postings.Posting.{Posting}
use Rattle.mpi_queue.specs.Fits.{Fits, is_taken_by, is_fit, is_match}

Decides-is_taken_by : (z pattern : ℤ) → Decides (is_taken_by z pattern) ((pattern ≡ negsuc 0) ⊎ (pattern ≡ z))
Decides-is_taken_by z pattern = Decides-or (int_eq pattern (negsuc 0)) (int_eq pattern z) (Decides-int_eq pattern (negsuc 0)) (Decides-int_eq pattern z)

pub Decides-is_fit : (recv send : Posting) → Decides (is_fit recv send) (Fits recv send)
Decides-is_fit recv send =
    Decides-like (is_fit recv send)
    (λ h. record { communicator = h.0; destination = h.1.0; source = h.1.1.0; tag = h.1.1.1 })
    (λ f. (f.communicator, (f.destination, (f.source, f.tag))))
    (Decides-and (recv.comm == send.comm) _ (Decides-eqb recv.comm send.comm)
    (Decides-and (int_eq send.peer (pos recv.rank)) _ (Decides-int_eq send.peer (pos recv.rank))
    (Decides-and (is_taken_by (pos send.rank) recv.peer) (is_taken_by send.tag recv.tag)
    (Decides-is_taken_by (pos send.rank) recv.peer) (Decides-is_taken_by send.tag recv.tag))))

pub is_fit-Fits : (recv send : Posting) → IsTrue (is_fit recv send) ↔ Fits recv send
is_fit-Fits recv send = Decides-is_fit recv send

match_cases : (a b f g : Bool) → cond a (not b && f) (b && g) ≡ cond b (not a && g) (a && f)
match_cases true true f g = refl
match_cases true false f g = refl
match_cases false true f g = refl
match_cases false false f g = refl

-- a posting meets another exactly where that one meets it
pub is_match-mutual : (p q : Posting) → is_match p q ≡ is_match q p
is_match-mutual p q = match_cases p.send q.send (is_fit q p) (is_fit p q)

same_kind : (a f g : Bool) → cond a (not a && f) (a && g) ≡ false
same_kind true f g = refl
same_kind false f g = refl

-- no posting meets itself
pub is_match-itself : (p : Posting) → is_match p p ≡ false
is_match-itself p = same_kind p.send (is_fit p p) (is_fit p p)
