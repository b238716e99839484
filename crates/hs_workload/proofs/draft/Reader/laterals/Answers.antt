use Rattle.std.proofs.Common.{◌≡◌, ℕ, ◌+◌, List, [], ◌∷◌, ◌++◌, Option, Some, None, Ok, length, refl, sym, ap, subst, ◌∙◌, append_assoc, length-append, arith}
use Rattle.std.proofs.lemmas.List.{append-nil}
use Rattle.hs_workload.proofs.Prelude.{option_map, option_and_then, value_or, TraceId, words_in, trace_of, traces_of, version_of, draft_of, past_of}
use Rattle.hs_workload.specs.declared.refusal.Reason.{Reason}
use Rattle.hs_workload.specs.declared.refusal.Reason.TheVariants.{Hex}
use Rattle.hs_workload.proofs.draft.Reader.laterals.Goals as goal

-- Where a value was found, it is the one that is there.
found : {A : Type 0} (reason : Reason) (o : Option A) (x : A) → value_or reason o ≡ Ok x → o ≡ Some x
found reason None x is = cc
found reason (Some y) x is = cc

none_before : {A : Type 0} (o : Option (List A)) → o ≡ option_map (λ more. [] ++ more) o
none_before None = refl
none_before (Some l) = refl

one_before : {A : Type 0} (done : List A) (x : A) (o : Option (List A)) → option_map (λ more. done ++ more) (option_map (λ l. x ∷ l) o) ≡ option_map (λ more. (done ++ x ∷ []) ++ more) o
one_before done x None = refl
one_before done x (Some l) = ap Some (sym (append_assoc done (x ∷ []) l))

none_after : {A : Type 0} (done : List A) → option_map (λ more. done ++ more) (Some []) ≡ Some done
none_after done = ap Some (append-nil done)

-- One word more was read as a trace.
one_read : (version : ℕ) (done : List TraceId) (trace : TraceId) (word : List ℕ) (words : List (List ℕ)) → value_or Hex (trace_of version word) ≡ Ok trace
    → option_map (λ more. done ++ more) (traces_of version (word ∷ words)) ≡ option_map (λ more. (done ++ trace ∷ []) ++ more) (traces_of version words)
one_read version done trace word words is =
    ap (λ (o : Option TraceId). option_map (λ more. done ++ more) (option_and_then (λ t. option_map (λ l. t ∷ l) (traces_of version words)) o)) (found Hex (trace_of version word) trace is)
    ∙ one_before done trace (traces_of version words)

pub loop-word-init : goal.loop-word-init
loop-word-init c =
    let none = c.none-laterals.ensures in
    record {
      read = subst (λ (l : List TraceId). traces_of (version_of (past_of (draft_of c.args.self.now))) (words_in c.args.words) ≡ option_map (λ more. l ++ more) (traces_of (version_of (past_of (draft_of c.args.self.now))) (words_in c.args.words)))
          (sym none)
          (none_before (traces_of (version_of (past_of (draft_of c.args.self.now))) (words_in c.args.words)));
      few = let none : length c.none-laterals.result ≡ 0 = ap length c.none-laterals.ensures in omega (arith, c.requires);
    }

pub push-requires : goal.push-requires
push-requires c =
    let left = ap length c.in-Some.ensures in
    omega (arith, c.loop-word.invariant.few, left)

pub loop-word-smaller : goal.loop-word-smaller
loop-word-smaller c =
    let left = ap length c.in-Some.ensures in
    omega (arith, left)

pub loop-word-preserved : goal.loop-word-preserved
loop-word-preserved c =
    let version = version_of (past_of (draft_of c.args.self.now)) in
    let rest = words_in c.next.new.self in
    let done = c.loop-word.laterals in
    record {
      read = c.loop-word.invariant.read
          ∙ ap (λ ws. option_map (λ (more : List TraceId). done ++ more) (traces_of version ws)) c.in-Some.ensures
          ∙ one_read version done c.in_ok-trace.field-0 c.in-Some.word.now rest c.in_ok-trace.ensures
          ∙ ap (λ (l : List TraceId). option_map (λ (more : List TraceId). l ++ more) (traces_of version rest)) (sym c.push.ensures);
      few = let left = ap length c.in-Some.ensures in
          let longer = ap length c.push.ensures ∙ length-append done (c.in_ok-trace.field-0 ∷ []) in
          omega (arith, c.loop-word.invariant.few, left, longer);
    }

pub returns : goal.returns
returns c =
    let version = version_of (past_of (draft_of c.args.self.now)) in
    ap (value_or Hex) (c.loop-word.invariant.read ∙ ap (λ ws. option_map (λ (more : List TraceId). c.loop-word.laterals ++ more) (traces_of version ws)) c.in_default.ensures.0 ∙ none_after c.loop-word.laterals)
