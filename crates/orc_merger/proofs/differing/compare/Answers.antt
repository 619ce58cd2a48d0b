use Rattle.std.proofs.Common.{refl, sym, ◌∙◌, arith, inl, inr}
use Rattle.orc_merger.proofs.differing.compare.Goals as goal

pub returns-then-not-is_same_schema-clause-fault : goal.returns-then-not-is_same_schema-clause-fault
returns-then-not-is_same_schema-clause-fault c = inl (c.if-not-is_same_schema.ensures.no, refl)

pub returns-then-not-is_same_version-clause-fault : goal.returns-then-not-is_same_version-clause-fault
returns-then-not-is_same_version-clause-fault c = inr (c.if-not-is_same_schema.ensures.yes, inl (c.if-not-is_same_version.ensures.no, refl))

pub returns-then-tail-first-clause-fault : goal.returns-then-tail-first-clause-fault
returns-then-tail-first-clause-fault c =
    inr (c.if-not-is_same_schema.ensures.yes, inr (c.if-not-is_same_version.ensures.yes, inl (λ e. omega (arith, e, c.if-tail-first.true), refl)))

pub returns-then-not-is_same-clause-fault : goal.returns-then-not-is_same-clause-fault
returns-then-not-is_same-clause-fault c =
    let no = c.if-not-is_same.ensures.no in
    inr (
      c.if-not-is_same_schema.ensures.yes,
      inr (
        c.if-not-is_same_version.ensures.yes,
        inr (
          omega (arith, c.if-tail-first.false),
          inl (λ e. no (c.as_slice-2.ensures ∙ e ∙ sym c.as_slice.ensures), refl),
        ),
      ),
    )

pub returns-clause-alike : goal.returns-clause-alike
returns-clause-alike c = record {
  schema = c.if-not-is_same_schema.ensures.yes;
  version = c.if-not-is_same_version.ensures.yes;
  stride = omega (arith, c.if-tail-first.false);
  other = sym c.as_slice-2.ensures ∙ c.if-not-is_same.ensures.yes ∙ c.as_slice.ensures;
}
