-- The images and the clock of a disk over a file, at a call that reached the file and at one that did not.
use Rattle.std.proofs.Common.{◌≡◌, ◌⊎◌, inl, inr, ℕ, suc, ◌-◌, ◌<◌, ◌≤◌, false, List, Option, Some, None, is_some, Result, Ok, Err, OnOk, refl, sym, subst, arith}
use Rattle.pm_disk.specs.Disk.{SameImages, OnlyTorn, Elapses}
use Rattle.pm_disk.specs.Writes.{Torn}
use Rattle.pm_file.specs.Calls.{Ticks, SameEach, SameOk, left_in, since_in}

pub itself : (images : List ℕ → Type 0) → SameImages images images
itself images = record { no_more = λ image is. is; no_fewer = λ image is. is }

past_or_now : {P Q R : Type 0} → (P → Q) → P ⊎ R → Q ⊎ R
past_or_now past (inl is) = inl (past is)
past_or_now past (inr is) = inr is

later : (n m : ℕ) → m ≡ suc n → n < m
later n m next = omega (arith, next)

since_next : (n m t : ℕ) → m ≡ suc n → t ≤ n → m - t ≡ suc (n - t)
since_next n m t next le = omega (arith, next, le)

module _ {H : Type 0} (since : H → ℕ → List ℕ → Type 0) (lying lying' : List ℕ → Type 0) where
  -- a path is left as it was, whether or not its file is held
  pub rests : (file : Option H) → SameImages lying lying' → SameEach (since_in since lying file) (since_in since lying' file)
  rests None same calls = same
  rests (Some held) same calls = itself (since held calls)

  -- a file that was opened leaves since any call what lay at its path
  pub opened : (file : Option H) (held : H) → is_some file ≡ false → ((calls : ℕ) → SameImages lying (since held calls)) → SameEach (since_in since lying file) (since_in since lying' (Some held))
  opened None held none same calls = same calls
  opened (Some other) held none same calls = absurd (cc none)

  pub missed_elapses : {images : List ℕ → Type 0} (file after : Option H) (n m : ℕ) → m ≡ suc n → after ≡ None → SameEach (since_in since lying file) (since_in since lying' after)
      → Elapses n m (λ t. since_in since lying file (n - t)) (λ t. since_in since lying' after (m - t)) images
  missed_elapses file None n m next none same =
      record {
        later = later n m next;
        nothing_else = λ t image le is. inl ((same (n - t)).no_more image is);
        keeps = λ t image le past. (same (n - t)).no_fewer image past;
      }
  missed_elapses file (Some held) n m next none same = absurd (cc none)

module _ {H : Type 0} (left : H → List ℕ → Type 0) (lying lying' : List ℕ → Type 0) where
  pub opened_left : (file : Option H) (held : H) → is_some file ≡ false → SameImages lying (left held) → SameImages (left_in left lying file) (left_in left lying' (Some held))
  opened_left None held none same = same
  opened_left (Some other) held none same = absurd (cc none)

  pub held_left : (file after : Option H) (held : H) → after ≡ Some held → SameImages (left_in left lying file) (left_in left lying' after) → SameImages (left_in left lying file) (left held)
  held_left file after held is same = subst (λ it. SameImages (left_in left lying file) (left_in left lying' it)) is same

module _ {H : Type 0} (since : H → ℕ → List ℕ → Type 0) (lying lying' : List ℕ → Type 0) {ticked : ℕ → List ℕ → Type 0} {images : List ℕ → Type 0} where
  pub called_elapses : (file after : Option H) (held : H) (n m : ℕ) → m ≡ suc n → after ≡ Some held → SameEach (since_in since lying file) (since_in since lying' after) → Ticks (since held) ticked images
      → Elapses n m (λ t. since_in since lying file (n - t)) (λ t. ticked (m - t)) images
  called_elapses file after held n m next is same ticks =
      let each = λ (calls : ℕ). subst (λ it. SameImages (since_in since lying file calls) (since_in since lying' it calls)) is (same calls) in
      record {
        later = later n m next;
        nothing_else = λ t image le left. past_or_now ((each (n - t)).no_more image) (ticks.nothing_else (n - t) image (subst (λ calls. ticked calls image) (since_next n m t next le) left));
        keeps = λ t image le past. subst (λ calls. ticked calls image) (sym (since_next n m t next le)) (ticks.keeps (n - t) image ((each (n - t)).no_fewer image past));
      }

torn_itself : (at n : ℕ) (bytes : List ℕ) → Torn at n bytes bytes
torn_itself at n bytes = record { no_shorter = omega arith; no_longer = omega arith; before = λ i lt is. refl; behind = λ i lt is. refl }

-- a write that was not made is one that was cut short at once
pub torn_same : {old new : List ℕ → Type 0} (at n : ℕ) → SameImages old new → OnlyTorn at n old new
torn_same at n same image is = (image, same.no_more image is, torn_itself at n image)

pub on_ok : {T E F P Q : Type 0} (outcome : Result T E) (result : Result T F) → SameOk outcome result → (P → Q) → OnOk outcome P → OnOk result Q
on_ok (Ok value) (Ok other) same holds is = holds is
on_ok (Ok value) (Err error) same holds is = absurd (cc same)
on_ok (Err error) (Ok other) same holds is = absurd (cc same)
on_ok (Err error) (Err other) same holds is = tt
