-- At most one place, and one content of the lent buffer, meets each promise; and what the functions promise of a page comes to that.
-- Assumes nothing.
use mathlib.Core.Path.{◌≡◌}
use mathlib.Core.List.{List}
use Prim.Native.Nat.{ℕ}
use Rattle.std.specs.Borrow.{MutBor}
use Rattle.print.specs.Text.{page, typed_all}
use Rattle.print.specs.declared.Page.{Page}
use Rattle.print.specs.Pages.{begun, typed_all_on}
use Rattle.print.proofs.Pages.{text_from}
use Rattle.print.proofs.Answers.{one_page}
use Rattle.words.specs.Words.{holds_line, broken_line}

module _ (d : List ℕ) (at : ℕ) (b c : List ℕ) (i k : ℕ) where
  pub one_holds : (rule : ℕ) → page b i ≡ typed_all (page d at) (holds_line rule) → page c k ≡ typed_all (page d at) (holds_line rule)
      → (b ≡ c) × (i ≡ k)
  one_holds rule e f = one_page (typed_all (page d at) (holds_line rule)) b c i k e f

  pub one_broken : (rule part place : ℕ) → page b i ≡ typed_all (page d at) (broken_line rule part place)
      → page c k ≡ typed_all (page d at) (broken_line rule part place)
      → (b ≡ c) × (i ≡ k)
  one_broken rule part place e f = one_page (typed_all (page d at) (broken_line rule part place)) b c i k e f

-- a line typed on a page that began at a place of the lent buffer
module _ (o : MutBor (List ℕ)) (at : ℕ) {p q : Page} (b : p ≡ begun o at) where
  pub holds_from : (rule : ℕ) → q ≡ typed_all_on p (holds_line rule) → page q.out.now q.place ≡ typed_all (page o.now at) (holds_line rule)
  holds_from rule e = text_from o at (holds_line rule) b e

  pub broken_from : (rule part place : ℕ) → q ≡ typed_all_on p (broken_line rule part place)
      → page q.out.now q.place ≡ typed_all (page o.now at) (broken_line rule part place)
  broken_from rule part place e = text_from o at (broken_line rule part place) b e
