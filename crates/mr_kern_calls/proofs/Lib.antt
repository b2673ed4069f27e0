mod DownLaws
