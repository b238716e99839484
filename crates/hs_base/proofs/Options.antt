-- What an option and a result hold.
use Rattle.std.proofs.Common.{◌≡◌, true, false, Option, Some, option_map, None, refl, sym, IsSome, Result, OnOk, Ok, Err, OnErr, is_some}
use Rattle.std.specs.Option.{option_or}
use Rattle.std.proofs.lemmas.Option.{same_Some}

-- what a mapped option holds
pub record IsMapped {X Y : Type 0} (f : X → Y) (o : Option X) (y : Y) : Type 0 where
  pub item : X
  pub there : o ≡ Some item
  pub is : y ≡ f item

pub mapped_from : {X Y : Type 0} (f : X → Y) (o : Option X) (y : Y) → option_map f o ≡ Some y → IsMapped f o y
mapped_from f None y h = let no : None ≡ Some y = h in absurd cc
mapped_from f (Some x) y h = record { item = x; there = refl; is = sym (same_Some (f x) y h) }

pub option_unmap : {X Y : Type 0} (f : X → Y) (o : Option X) (y : Y) → option_map f o ≡ Some y → (x : X) × (o ≡ Some x) × (f x ≡ y)
option_unmap f None y h = let never : None ≡ Some y = h in absurd cc
option_unmap f (Some x) y h = (x, refl, same_Some (f x) y h)

pub option_map_parts : {X Y : Type 0} (f : X → Y) (o : Option X) (y : Y) → option_map f o ≡ Some y → (x : X) × (o ≡ Some x) × (y ≡ f x)
option_map_parts f None y h = let no : None ≡ Some y = h in absurd cc
option_map_parts f (Some x) y h = (x, refl, sym (same_Some (f x) y h))

pub option_or_none : {X : Type 0} (o : Option X) → option_or o None ≡ o
option_or_none None = refl
option_or_none (Some x) = refl

pub is_some_true : {A : Type 0} (o : Option A) → IsSome o → is_some o ≡ true
is_some_true None some = absurd cc
is_some_true (Some x) some = refl

pub on_ok_map : {X Y : Type 0} (result : Result X Y) (P Q : Type 0) → (P → Q) → OnOk result P → OnOk result Q
on_ok_map (Ok x) P Q gives fact = gives fact
on_ok_map (Err e) P Q gives fact = tt

pub on_err_map : {X Y : Type 0} (result : Result X Y) (P Q : Type 0) → (P → Q) → OnErr result P → OnErr result Q
on_err_map (Ok x) P Q gives fact = tt
on_err_map (Err e) P Q gives fact = gives fact

pub on_ok_always : {A E : Type 0} {P : Type 0} (r : Result A E) → P → OnOk r P
on_ok_always (Ok x) p = p
on_ok_always (Err e) p = tt

pub on_err_always : {A E : Type 0} {P : Type 0} (r : Result A E) → P → OnErr r P
on_err_always (Ok x) p = tt
on_err_always (Err e) p = p

pub is_some_false : {X : Type 0} (o : Option X) → is_some o ≡ false → o ≡ None
is_some_false None h = refl
is_some_false (Some x) h = absurd cc

pub some_item : {X : Type 0} (o : Option X) → IsSome o → (x : X) × (o ≡ Some x)
some_item None some = absurd cc
some_item (Some x) some = (x, refl)
