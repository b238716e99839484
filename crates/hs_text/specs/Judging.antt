-- The first fault of a text whose lines are judged in their order: what is wrong with a line is said by looking back over the
-- lines before it. The first line with a fault is the text's. A text that ends before it is whole is cut off in the line that is
-- missing. Lists of earlier lines have the newest first.
use Rattle.std.specs.Prelude.{◌≡◌, ℕ, ◌+◌, ◌==◌, Bool, ◌&&◌, nat_lt, List, [], ◌∷◌, ◌++◌, length, codes, Option, Some, None, option_map, if◌then◌else◌, refl}
use Rattle.std.specs.List.{slice_split}
use Rattle.std.specs.Option.{option_or}

-- how the lines of a text are judged, for reasons R and refusals F
pub record Judging (R F : Type 0) : Type 0 where
  -- what is wrong with a line after the earlier lines
  pub fault_of : List (List ℕ) → List ℕ → Option R
  -- whether the text may end behind these lines
  pub is_whole : List (List ℕ) → Bool
  -- the reason where it may not
  pub cut_off : R
  -- the refusal of a line, from 1
  pub refusal_at : ℕ → R → F

-- the parts of a text between its newlines
abbrev pub parts_of : List ℕ → List (List ℕ)
parts_of text = slice_split (λ b. b == 10) text

-- what stands behind the last newline ends the text: it is empty, and the text is whole
abbrev pub end_fault : {R F : Type 0} → Judging R F → List (List ℕ) → List ℕ → Option F
end_fault judging earlier rest =
    if length rest == 0 && judging.is_whole earlier then None else Some (judging.refusal_at (length earlier + 1) judging.cut_off)

-- the first fault among lines and what stands behind the last newline, after the earlier lines
abbrev pub first_fault_after : {R F : Type 0} → Judging R F → List (List ℕ) → List (List ℕ) → Option F
first_fault_after judging earlier [] = None
first_fault_after judging earlier (rest ∷ []) = end_fault judging earlier rest
first_fault_after judging earlier (line ∷ next ∷ more) =
    option_or (option_map (judging.refusal_at (length earlier + 1)) (judging.fault_of earlier line)) (first_fault_after judging (line ∷ earlier) (next ∷ more))

-- the first fault of a text
unfoldable pub first_fault_in : {R F : Type 0} → Judging R F → List ℕ → Option F
first_fault_in judging text = first_fault_after judging [] (parts_of text)

-- earlier lines in their order, before others
abbrev pub onto : {A : Type 0} → List A → List A → List A
onto [] more = more
onto (x ∷ earlier) more = onto earlier (x ∷ more)

-- worked examples: texts of two lines, none longer than the one before it, with 7 for a longer line and 9 for the end
abbrev is_longer : List (List ℕ) → List ℕ → Option ℕ
is_longer [] line = None
is_longer (newest ∷ earlier) line = if nat_lt (length newest) (length line) then Some 7 else None

abbrev shrinking : Judging ℕ (ℕ × ℕ)
shrinking = record { fault_of = is_longer; is_whole = λ earlier. length earlier == 2; cut_off = 9; refusal_at = λ line reason. (line, reason) }

faults_found : (first_fault_in shrinking (codes "ab" ++ 10 ∷ codes "c" ++ 10 ∷ []) ≡ None) × (first_fault_in shrinking (codes "a" ++ 10 ∷ codes "bc" ++ 10 ∷ []) ≡ Some (2, 7))
    × (first_fault_in shrinking (codes "ab" ++ 10 ∷ codes "c") ≡ Some (2, 9)) × (first_fault_in shrinking [] ≡ Some (1, 9))
    × (first_fault_in shrinking (10 ∷ 10 ∷ 10 ∷ []) ≡ Some (4, 9))
unfolding first_fault_in
faults_found = (refl, refl, refl, refl, refl)
