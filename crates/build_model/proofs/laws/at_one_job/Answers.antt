use Rattle.build_model.proofs.OneJob.{follows_order}
use Rattle.build_model.proofs.laws.at_one_job.Goals as goal

pub returns : goal.returns
returns c = λ s b steps view order run succeeds one takes sees is_order. follows_order s b view steps order run succeeds one takes sees is_order
