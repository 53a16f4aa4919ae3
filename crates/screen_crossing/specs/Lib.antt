pub mod ScreenCrossing
