-- The numbers of the limits.
use Rattle.std.specs.Prelude.{◌≡◌}
use Rattle.sat_base.specs.declared.limits.TheConstants.{SOURCE_BYTES, TOKENS, DEPTH, FUNCTIONS, SCALARS, PARAMETERS, OBJECT_BYTES, CONSTANTS, STATEMENTS, VIEWS, SAMPLE_BYTES}

pub record AreLimits : Type 0 where
  pub source_bytes : SOURCE_BYTES ≡ 1048576
  pub tokens : TOKENS ≡ 131072
  pub depth : DEPTH ≡ 64
  pub functions : FUNCTIONS ≡ 1024
  pub scalars : SCALARS ≡ 256
  pub parameters : PARAMETERS ≡ 16
  pub object_bytes : OBJECT_BYTES ≡ 1048576
  pub constants : CONSTANTS ≡ 4096
  pub statements : STATEMENTS ≡ 65536
  pub views : VIEWS ≡ 64
  pub sample_bytes : SAMPLE_BYTES ≡ 16777216
