use Rattle.lawful_texts.proofs.Sites.{own-tokens}
use Rattle.lawful_texts.proofs.laws.sites_have_own_tokens.Goals as goal

pub returns : goal.returns
returns c = own-tokens
