pub mod CountedLimits
