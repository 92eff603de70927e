-- What functions hand back, by the pair. Assumes nothing.
use borrow.Author.Rules.{rules}
use Rattle.kept.specs.Promise.{handed}
use Rattle.kept.proofs.Slots.{slot-handed}
use Rattle.shared.proofs.Families.{handed-told}
use Rattle.shared.proofs.told.told_handed.Goals as goal

pub returns : goal.returns
returns c p returning functions = c.told.ensures p handed c.args.t.now tt (λ _. slot-handed) (λ rest r part read. handed-told c.args.wide p _ returning (λ f o. functions f (part f o)) (search rules))
