pub use Rattle.c_grammar.specs.Grammar
pub use Rattle.c_grammar.specs.Marks
pub use Rattle.c_grammar.specs.Nodes
pub use Rattle.c_grammar.specs.Parts
pub use Rattle.c_grammar.specs.Programs
pub use Rattle.c_grammar.specs.Spelling
pub use Rattle.c_grammar.specs.Spots
pub use Rattle.c_grammar.specs.Symbols
